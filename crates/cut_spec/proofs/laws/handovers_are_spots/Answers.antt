use Rattle.cut_spec.proofs.SpotsBegun.{handover_is_spot, spots_are_begun}
use Rattle.cut_spec.proofs.laws.handovers_are_spots.Goals as goal

pub returns-clause-spot : goal.returns-clause-spot
returns-clause-spot c = handover_is_spot

pub returns-clause-begun : goal.returns-clause-begun
returns-clause-begun c = spots_are_begun
