pub mod Calls
pub mod Moves
pub mod SharedPrefix
pub mod TextTaken
