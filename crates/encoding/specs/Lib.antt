pub mod View
pub mod Back
pub mod Sound
