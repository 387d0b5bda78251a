pub mod SeatLists
pub mod TurnKept
