pub mod Laws
pub mod AllZero
pub mod Fields
pub mod RoundTrip
