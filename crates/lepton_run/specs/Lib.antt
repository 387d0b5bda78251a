pub mod Lines
pub mod Samples
pub mod Summaries
pub mod Answers
pub mod Endings
pub mod CommandEnds
pub mod DecodeEndings
pub mod FileRows
