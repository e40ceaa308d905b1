pub mod CopyLaws
pub mod LoadLaws
pub mod UseLaws
pub mod StoreLaws
