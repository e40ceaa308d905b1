pub mod Parts
pub mod TallyOf
