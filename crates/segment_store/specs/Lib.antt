pub use Rattle.manifest_cache.specs.Cached
pub use Rattle.depot.specs.Loading
pub use Rattle.segment_plan.specs.Plan
pub use Rattle.segment_plan.specs.Planned
pub mod Copies
pub mod Loads
pub mod Stored
pub mod Storing
