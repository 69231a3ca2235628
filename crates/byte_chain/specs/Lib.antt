pub mod Blocks
pub mod Steps
