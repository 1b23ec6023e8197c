pub mod Heights
pub mod Sums
pub mod Bests
pub mod Latest
pub mod Fits
pub mod Slides
pub mod Turns
