pub mod Tests
pub mod Graph
pub mod Link
pub mod Area
pub mod Found
