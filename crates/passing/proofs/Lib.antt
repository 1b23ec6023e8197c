pub mod Arms
pub mod Counts
pub mod Steps
