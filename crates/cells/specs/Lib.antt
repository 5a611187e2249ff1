pub mod Roles
pub mod Directory
pub mod Values
pub mod Contents
pub mod Kinded
pub mod Tables
pub mod Reading
pub mod Sorts
