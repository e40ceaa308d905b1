pub mod Tokens
pub mod Turn
pub mod OpenAt
pub mod SessionSteps
pub mod ReadingSteps
