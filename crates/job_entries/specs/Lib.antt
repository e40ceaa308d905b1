pub use Rattle.session.specs.Backup
pub use Rattle.restore.specs.Restores
pub mod Interleaved
pub mod Pairs
pub mod BackupPoints
pub mod BackupStores
pub mod RestorePoints
