use Rattle.std.proofs.Common.{arith}
use Rattle.outside_core.proofs.SharedPrefix.{shared_prefix-past}
use Rattle.outside_core.proofs.watch.prefix_length.Goals as goal

pub returns-clause-longest : goal.returns-clause-longest
returns-clause-longest c =
    omega (arith, c.loop-i.invariant, shared_prefix-past c.args.a.now c.args.b.now c.loop-i.i (omega arith))
