mod CodedParts
mod FewLanes
mod LanesMade
mod NewLanes
mod PartsKept
mod ScoutsBack
mod StreamsMade
mod StreamsPassed
