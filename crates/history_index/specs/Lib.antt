pub mod Choices
pub mod IndexOf
pub mod MayChange
