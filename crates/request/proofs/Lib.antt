pub mod Lookup
pub mod Order
pub mod Law
