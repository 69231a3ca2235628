pub mod Sines
pub mod Taylor
pub mod Worked
