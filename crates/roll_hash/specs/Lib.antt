pub mod Fingerprint
pub mod Rolled
pub use Rattle.circular_buffer.specs.Buffer
