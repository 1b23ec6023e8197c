pub mod Played
pub mod Hand
