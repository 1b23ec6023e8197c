pub mod Sparse
pub mod Steps
pub mod Searches
