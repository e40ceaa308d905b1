pub mod ChunkLaws
pub mod StepLaws
pub mod LieLaws
pub mod PlacingLaws
pub mod UseLaws
pub mod PutLaws
pub mod PlannedLaws
