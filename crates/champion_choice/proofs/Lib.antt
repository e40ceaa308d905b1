pub mod PlaceLaws
pub mod ScoreLaws
pub mod ListLaws
pub mod BestLaws
pub mod ChoiceLaws
pub mod TestLaws
