pub mod IndexEnds
pub mod Lanes
pub mod Measures
pub mod RangeEnds
pub mod RangeInside
pub mod AloneInside
