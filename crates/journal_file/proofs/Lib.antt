pub mod Lengths
pub mod ScanLaws
pub mod FrontLaws
pub mod ReadLaws
pub mod FoundLaws
pub mod AnswerLaws
pub mod CountLaws
