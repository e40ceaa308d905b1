pub mod OpenLaws
pub mod UseLaws
pub mod TurnLaws
pub mod AskLaws
pub mod ReadLaws
