pub mod Trace
pub mod Cases
