pub mod Sight
pub mod Tokens
pub mod Took
