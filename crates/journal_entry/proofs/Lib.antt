mod Names
mod Loop
mod Fields
pub mod Entries
pub mod WeightLaws
