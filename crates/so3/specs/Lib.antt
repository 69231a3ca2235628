pub mod Elements
pub mod Angles
pub mod Tangents
pub mod Group
pub mod Jacobians
pub mod Outcomes
