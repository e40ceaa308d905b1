pub mod SightLaws
pub mod TookLaws
pub mod StayLaws
pub mod MayLaws
pub mod CallLaws
