pub mod Block
pub mod Cases
