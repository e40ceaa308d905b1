mod JoinedLaws
mod PendingLaws
pub mod SegmentsLaws
