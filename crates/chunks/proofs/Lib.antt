pub mod Alike
pub mod Held
