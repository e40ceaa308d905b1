pub mod EntryLine
pub mod Outcome
pub mod JobLine
pub mod Status
