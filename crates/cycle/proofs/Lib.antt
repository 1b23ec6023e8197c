pub mod Walks
pub mod Tied
pub mod Graphs
