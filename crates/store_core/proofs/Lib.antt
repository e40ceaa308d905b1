mod NewestLaws
mod PinLaws
mod AllowLaws
mod ChoiceLaws
mod KeptLaws
mod SeenLaws
mod UsesLaws
mod ReplayLaws
