pub mod HalfAngles
pub mod Worked
