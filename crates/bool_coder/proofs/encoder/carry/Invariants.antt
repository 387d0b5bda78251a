use Rattle.bool_coder.proofs.Carry.{Carrying}
use Rattle.bool_coder.proofs.encoder.carry.Given as goal

abbrev pub invariant-loop-written : goal.invariant-loop-written
invariant-loop-written l = Carrying l.end l.place l.written.items l.fn.written.items

abbrev pub decreases-loop-written : goal.decreases-loop-written
decreases-loop-written l = l.place
