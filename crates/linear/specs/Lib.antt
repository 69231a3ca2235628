pub mod Records
pub mod Vectors
pub mod Quaternions
pub mod Matrices
