pub mod AnyGroup
pub mod Groups
pub mod Elements
pub mod Bytes
pub mod Runs
pub mod Readings
