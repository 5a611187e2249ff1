pub mod Verdicts
pub mod Heating
