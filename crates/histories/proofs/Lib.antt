pub mod Refused
pub mod Taking
pub mod Shown
pub mod Whole
pub mod Widening
pub mod NoPlan
pub mod ReadsBack
