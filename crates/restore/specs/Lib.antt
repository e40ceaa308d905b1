pub use Rattle.depot.specs.Loading
pub use Rattle.depot.specs.Chunks
pub mod Faults
pub mod Reads
pub mod Output
pub mod Copies
pub mod Restores
pub mod Damage
