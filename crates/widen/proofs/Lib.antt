pub mod Spread
pub mod Cases
