pub mod Grown
pub mod Leading
