pub mod Named
pub mod Lack
