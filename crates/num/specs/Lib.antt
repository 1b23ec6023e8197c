pub mod Arithmetic
pub mod Division
pub mod Parts
