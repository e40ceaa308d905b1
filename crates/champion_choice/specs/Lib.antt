pub mod Scores
pub mod Lists
