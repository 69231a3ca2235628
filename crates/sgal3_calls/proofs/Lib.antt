pub mod Blocks
pub mod Answers
pub mod Order
pub mod NotUnit
pub mod Generic
pub mod Opened
