pub mod Answers
pub mod Group
pub mod Operations
pub mod Outcomes
