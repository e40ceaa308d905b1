pub mod PlaceLaws
pub mod OriginLaws
pub mod MapLaws
pub mod FreshLaws
