pub mod StreamsFound
pub mod Lanes
pub mod Scouting
