pub mod HoldFacts
pub mod BoardKept
pub mod WorkerKept
pub mod WorkerSegment
pub mod EmitterKept
pub mod EmitterSegment
pub mod OpeningFits
pub mod ViewLaws
