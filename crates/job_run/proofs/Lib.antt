pub mod EraseLaws
pub mod RestoreLaws
pub mod ReclaimLaws
