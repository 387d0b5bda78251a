pub mod Played
pub mod Ends
pub mod ReadyInside
pub mod AloneInside
