pub mod Image
pub mod Stores
pub mod Format
pub mod Bytes
