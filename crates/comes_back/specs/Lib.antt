pub mod ComesBack
pub mod Readings
