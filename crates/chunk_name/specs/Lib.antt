pub mod Pieces
pub use Rattle.sha2.specs.Sha256
pub use Rattle.hex.specs.Hex
