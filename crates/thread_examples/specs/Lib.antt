pub mod Sums
pub mod ThreeSegments
