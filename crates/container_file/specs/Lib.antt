pub mod Chunk
pub mod Text
pub mod Scanned
pub mod Layout
pub mod Plan
pub mod Containers
pub use Rattle.chunk_name.specs.Pieces
