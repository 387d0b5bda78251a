pub mod Outputs
pub mod Appending
pub mod WriterInside
