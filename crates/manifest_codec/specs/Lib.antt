pub mod Manifest
pub mod PiecesPart
pub mod Text
pub mod Containers
pub use Rattle.chunk_name.specs.Pieces
