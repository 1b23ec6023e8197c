pub mod Space
pub mod Lists
pub mod Taken
pub mod Order
pub mod Lossless
pub mod CasesHold
