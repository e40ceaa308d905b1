pub use Rattle.stored_streams.specs.Whole
pub mod Keeps
pub mod Records
