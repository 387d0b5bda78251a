use Rattle.container_spec.proofs.laws.ranges_of_containers_are_slices.Goals as goal
use Rattle.container_spec.proofs.RestoredRanges.{end_is_kept, range_of_container_is_slice}

pub returns-clause-end : goal.returns-clause-end
returns-clause-end c = end_is_kept

pub returns-clause-slice : goal.returns-clause-slice
returns-clause-slice c = range_of_container_is_slice
