pub mod Kept
pub mod Order
pub mod Hand
pub mod Whole
