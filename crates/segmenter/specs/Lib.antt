pub mod Segments
pub mod Joined
pub mod Segment
pub mod Pending
pub use Rattle.chunk_name.specs.Pieces
