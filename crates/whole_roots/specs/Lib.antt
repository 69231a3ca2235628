pub mod Roots
pub mod Steps
