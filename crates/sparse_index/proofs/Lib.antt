pub mod BoundLaws
pub mod KeptLaws
pub mod LoopLaws
pub mod StayLaws
pub mod TestLaws
