pub mod Values
pub mod Rising
pub mod Own
pub mod Counts
pub mod Steps
pub mod Calls
