pub mod Tests
pub mod Numbers
pub mod Laws
pub mod Sizes
pub mod Rules
pub mod Arms
pub mod Widths
