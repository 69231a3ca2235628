pub mod Valid
pub mod Opened
