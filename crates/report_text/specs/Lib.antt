pub mod Digits
pub mod Ascii
pub mod Lines
