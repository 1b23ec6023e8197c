pub mod Decides
pub mod Steps
