pub mod Latest
pub mod Turns
pub mod Drops
