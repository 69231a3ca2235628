pub mod Elements
pub mod Events
pub mod Tangents
pub mod Matrices
pub mod Algebra
pub mod Group
pub mod Outcomes
