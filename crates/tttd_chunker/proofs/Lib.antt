pub mod CutLaws
pub mod SearchSteps
pub mod StreamLaws
pub mod ScanLaws
pub mod ProgressLaws
pub mod KeptLaws
