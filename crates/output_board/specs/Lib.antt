pub mod SeatRule
pub mod Releases
pub mod Splits
pub mod Seats
pub mod SeatPasses
pub mod Answers
pub mod SeatLaws
