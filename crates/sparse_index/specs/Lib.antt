pub mod Lists
pub mod Kept
pub mod LastBytes
pub mod NameKey
