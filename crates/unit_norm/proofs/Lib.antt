pub mod Sums
pub mod Norms
pub mod Unit
pub mod Product
pub mod Accepted
pub mod Results
pub mod HalfAngle
pub mod Worked
