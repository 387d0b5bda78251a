pub mod LeptonApp
pub mod Meaning
pub mod Rows
