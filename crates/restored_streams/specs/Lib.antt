pub mod Restored
pub mod Example
pub mod Complete
