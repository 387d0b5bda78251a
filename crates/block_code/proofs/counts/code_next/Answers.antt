use Rattle.block_code.proofs.Counting.{next_same}
use Rattle.block_code.proofs.counts.code_next.Goals as goal

pub returns-clause-same : goal.returns-clause-same
returns-clause-same g c is = rw c.from.ensures (next_same c.args.wanted c.args.bit c.args.above c.in_ok-one.one (rw c.bit_of.ensures at (c.in_ok-one.ensures.same is)) (c.requires.wanted is))
