pub mod Sums
pub mod Branches
pub mod Outcomes
pub mod Dots
pub mod Filled
