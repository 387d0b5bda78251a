pub mod Faults
pub mod Memory
pub mod Takes
pub mod Written
