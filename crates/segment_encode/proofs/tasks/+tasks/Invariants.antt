use Rattle.std.proofs.Common.{◌+◌, ◌*◌}
use Rattle.std.specs.Prelude.{length}
use Rattle.segment_encode.proofs.tasks.+tasks.Given as goal

abbrev pub decreases-perform_all : goal.decreases-perform_all
decreases-perform_all g l = 3 * length l.tasks.now

abbrev pub decreases-perform_beside : goal.decreases-perform_beside
decreases-perform_beside g l = 3 * length l.rest.now + 2

abbrev pub decreases-perform_beside-join_mut+arg3 : goal.decreases-perform_beside-join_mut+arg3
decreases-perform_beside-join_mut+arg3 g l = 3 * length l.rest.now + 1
