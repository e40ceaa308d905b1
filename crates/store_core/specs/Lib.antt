pub mod Journal
pub mod View
pub mod Answers
pub mod Seen
pub mod Uses
pub mod Replay
