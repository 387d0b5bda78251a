mod BoxSegments
mod CutsOfPlans
mod DecodedSteps
mod FirstBlocks
mod GridsOfPlans
mod JoinedPieces
mod McuMade
mod McusCoded
mod PadsOn
pub mod PassesOn
mod PadsPacked
mod PiecesFilled
mod ReadOn
mod ScansCoded
mod SegmentEnds
pub mod SegmentNumbers
mod SegmentsBegun
mod SegmentsCoded
mod SlotsOfGrid
mod RowStarts
mod StartsFound
mod StepPaying
mod StepsTaken
mod FaultNumbers
mod FileSteps
mod ScanDecoders
mod ScansOfSegments
