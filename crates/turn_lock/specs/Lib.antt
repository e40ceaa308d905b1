pub mod Seen
pub mod Passes
pub mod Rule
pub mod Steps
pub mod Openings
pub mod Entered
pub mod Turn
pub mod Found
