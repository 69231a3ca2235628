pub mod RunningSum
pub mod EntryRuns
