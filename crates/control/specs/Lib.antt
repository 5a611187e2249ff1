pub mod Ramps
pub mod Trips
pub mod Status
pub mod Heat
