pub mod Replay
pub mod Rank
pub mod Session
pub mod Whole
pub mod Truth
pub mod Cases
pub mod NoPlan
