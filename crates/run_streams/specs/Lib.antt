pub mod RunStreams
pub mod WholeStores
pub mod Answered
pub mod Made
pub mod Wrote
pub mod Erased
pub mod Ends
pub mod Unkept
