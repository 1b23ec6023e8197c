pub mod Ordered
pub mod Order
pub mod Cases
