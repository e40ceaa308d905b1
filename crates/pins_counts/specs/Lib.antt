pub mod Counts
pub mod Facts
pub mod Waiting
pub mod Codes
