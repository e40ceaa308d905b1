pub mod Plan
pub mod Located
pub mod Placing
pub mod Planned
pub use Rattle.segmenter.specs.Segment
pub use Rattle.container_file.specs.Layout
pub use Rattle.manifest_codec.specs.Text
