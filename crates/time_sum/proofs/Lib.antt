pub mod Bound
pub mod Times
pub mod TimeSum
pub mod ByteChain
pub mod EntryRuns
