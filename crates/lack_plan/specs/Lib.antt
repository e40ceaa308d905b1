pub mod Plan
pub mod Maps
pub use Rattle.ss_base.specs.Origins
