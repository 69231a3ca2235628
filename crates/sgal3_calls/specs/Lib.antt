pub mod Composition
pub mod Outcomes
pub mod Order
pub mod Parts
pub mod Events
