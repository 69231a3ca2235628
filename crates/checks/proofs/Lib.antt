pub mod Finite
pub mod Passed
pub mod Order
pub mod Outcomes
pub mod NearOne
pub mod Places
pub mod Trial
