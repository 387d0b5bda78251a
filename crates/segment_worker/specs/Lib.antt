pub mod Contents
pub mod Joining
pub mod Emitting
pub mod OwnSegments
pub mod Working
pub mod LoneSegments
