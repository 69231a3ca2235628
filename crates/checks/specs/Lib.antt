pub mod Refusals
pub mod Checks
pub mod Outcomes
pub mod Trial
