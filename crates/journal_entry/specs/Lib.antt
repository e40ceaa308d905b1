pub mod EntryText
pub mod Bounds
pub mod Reading
pub mod Weight
