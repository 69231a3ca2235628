pub mod Values
pub mod Stored
pub mod RoundTrips
