pub mod Errors
pub mod FileHeads
pub mod ScansMade
