use Rattle.std.proofs.Common.{◌+◌, ◌*◌}
use Rattle.segment_encode.proofs.relay.+parts.Given as goal

abbrev pub decreases-make_all : goal.decreases-make_all
decreases-make_all g l = 4 * g.P.Pass.left l.pass.now

abbrev pub decreases-with_others : goal.decreases-with_others
decreases-with_others g l = 4 * g.P.Pass.left l.pass.now + 3

abbrev pub decreases-beside : goal.decreases-beside
decreases-beside g l = 4 * g.P.Pass.left l.pass.now + 2

abbrev pub decreases-beside-join_mut+arg3 : goal.decreases-beside-join_mut+arg3
decreases-beside-join_mut+arg3 g l = 4 * g.P.Pass.left l.pass.now + 1
