pub mod Quotients
pub mod CountedShares
pub mod CountedTables
pub mod PutSteps
pub mod GotSteps
