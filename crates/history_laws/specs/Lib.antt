pub mod Stands
pub mod OwnUse
pub mod Concerns
pub mod Recount
pub mod EntryNumbers
