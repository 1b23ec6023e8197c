pub mod Grammar
pub mod Lookup
