pub mod Spread
pub mod Widen
