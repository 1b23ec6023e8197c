pub mod Passes
pub mod Taken
pub mod Fresh
pub mod Plans
