pub mod Lack
pub mod Bytes
