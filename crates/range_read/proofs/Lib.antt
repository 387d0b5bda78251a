mod RangesPlayed
mod CountedSteps
mod MeasuredSegments
mod FoundPlaces
