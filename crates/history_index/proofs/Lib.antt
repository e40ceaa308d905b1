pub mod RetireLaws
pub mod ChoiceLaws
pub mod FollowLaws
