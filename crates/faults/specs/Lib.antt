pub mod Faults
pub mod Lines
pub mod Search
pub mod Cases
