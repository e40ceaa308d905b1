pub use Rattle.depot.specs.Loading
pub mod Cached
