pub mod Rules
pub mod Taken
pub mod Pass
