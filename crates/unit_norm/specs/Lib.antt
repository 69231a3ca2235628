pub mod SquaredNorm
pub mod HalfAngle
