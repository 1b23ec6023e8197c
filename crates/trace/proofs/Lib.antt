pub mod Bounds
pub mod Ends
pub mod Fits
pub mod CasesHold
