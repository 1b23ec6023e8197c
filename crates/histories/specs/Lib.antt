pub mod Demands
pub mod Inside
pub mod NoPlan
pub mod ReadsBack
pub mod Widening
