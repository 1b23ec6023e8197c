pub mod Laws
pub mod Slots
pub mod Loops
pub mod Stores
pub mod Windows
