pub mod Courses
pub mod Maxima
