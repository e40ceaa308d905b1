pub mod WholeLaws
pub mod GroupingLaws
pub mod NextLaws
pub mod ReadLaws
pub mod AnswerLaws
pub mod WorkLaws
