pub mod Widths
pub mod Points
pub mod Cells
