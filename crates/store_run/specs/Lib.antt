pub mod Records
pub mod Reading
pub mod Answering
pub mod RunEnds
pub mod Turns
pub mod RecordLaws
pub mod Kept
pub mod TakesReplies
