pub mod Number
pub mod Error
