pub mod Exact
pub mod Root
pub mod Steps
pub mod Worked
