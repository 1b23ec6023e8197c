pub mod Search
pub mod Near
