pub mod Algebra
pub mod Solver
pub mod Integers
