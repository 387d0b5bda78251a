pub mod Gives
pub mod Numbers
pub mod Writes
