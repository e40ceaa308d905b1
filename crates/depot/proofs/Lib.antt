pub mod UsesLaws
pub mod StoreLaws
