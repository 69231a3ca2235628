pub mod TenRows
pub mod Adjoints
