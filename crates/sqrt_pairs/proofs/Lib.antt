pub mod Line
pub mod Runs
