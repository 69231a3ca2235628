pub mod DigitsStored
pub mod LinesStored
