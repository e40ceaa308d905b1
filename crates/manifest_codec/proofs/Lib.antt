mod FixedLaws
pub mod TextLaws
mod ContainersLaws
