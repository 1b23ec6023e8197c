pub mod Quiet
pub mod Visits
pub mod Example
