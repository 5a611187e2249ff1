pub mod Loops
pub mod Meaning
pub mod Rated
pub mod Settings
pub mod Magnets
pub mod Recordings
pub mod Replay
