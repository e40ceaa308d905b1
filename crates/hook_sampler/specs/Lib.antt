pub mod Hooks
pub mod Seen
