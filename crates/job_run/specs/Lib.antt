pub use Rattle.session.specs.Backup
pub use Rattle.restore.specs.Restores
pub use Rattle.job_script.specs.Grammar
pub mod Erasing
pub mod Jobs
