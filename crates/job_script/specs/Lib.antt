pub use Rattle.ss_base.specs.StreamName
pub mod FileName
pub mod Words
pub mod Grammar
pub mod Script
pub mod Reading
pub mod Step
