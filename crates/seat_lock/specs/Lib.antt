pub mod TurnRule
pub mod TurnSteps
pub mod Passes
pub mod Holding
