pub mod Recorded
pub mod Rows
pub mod Agrees
pub mod Names
pub mod Parts
pub mod Kept
