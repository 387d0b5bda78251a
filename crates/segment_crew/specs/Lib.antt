pub mod Crews
pub mod Teams
pub mod CrewInside
pub mod Worth
