pub mod Listed
pub mod Access
pub mod Slots
pub mod ByKind
