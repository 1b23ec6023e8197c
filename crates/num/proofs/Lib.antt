pub mod Signed
pub mod Arith
pub mod Below
pub mod Division
pub mod Values
