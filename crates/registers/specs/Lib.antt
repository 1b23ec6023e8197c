pub mod Write
pub mod Laws
pub mod Sequence
pub mod Cases
