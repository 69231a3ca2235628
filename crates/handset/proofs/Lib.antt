pub mod FiniteValues
pub mod Outputs
pub mod Never7
