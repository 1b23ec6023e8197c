pub mod Equation
pub mod Reply
pub mod Search
