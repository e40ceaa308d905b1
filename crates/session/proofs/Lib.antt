pub mod CountLaws
pub mod StoreLaws
pub mod CallLaws
pub mod HookLaws
pub mod StepLaws
pub mod StreamLaws
pub mod BackupLaws
