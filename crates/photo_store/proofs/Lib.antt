pub mod FileRuns
pub mod Clashes
