use Rattle.std.proofs.Common.{◌+◌, ◌*◌}
use Rattle.std.specs.Prelude.{length}
use Rattle.segment_crew.proofs.threads.+turns.Given as goal

abbrev pub decreases-lead_in_turn : goal.decreases-lead_in_turn
decreases-lead_in_turn g l = 3 * length l.tasks.now

abbrev pub decreases-lead_beside_first : goal.decreases-lead_beside_first
decreases-lead_beside_first g l = 3 * length l.rest.now + 2

abbrev pub decreases-lead_beside_first-join_mut+arg3 : goal.decreases-lead_beside_first-join_mut+arg3
decreases-lead_beside_first-join_mut+arg3 g l = 3 * length l.rest.now + 1
