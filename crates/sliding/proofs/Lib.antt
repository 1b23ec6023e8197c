pub mod Places
pub mod Whole
