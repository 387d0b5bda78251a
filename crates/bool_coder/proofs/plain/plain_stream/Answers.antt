use Rattle.std.proofs.Common.{ap, arith}
use Rattle.bool_coder.specs.BoolStream.{Interval}
use Rattle.bool_coder.proofs.PlainSteps.{prefix-kept, prefix-short}
use Rattle.bool_coder.proofs.plain.plain_stream.Goals as goal

pub one_more-line-requires-clause-kept : goal.one_more-line-requires-clause-kept
one_more-line-requires-clause-kept c = rw c.loop-prob.invariant (prefix-kept c.args.bools.now c.loop-prob.prob-index c.requires.probs)

pub one_more-line-requires-clause-short : goal.one_more-line-requires-clause-short
one_more-line-requires-clause-short c =
    omega (arith, ap (λ (i : Interval). i.shifts) c.loop-prob.invariant, prefix-short c.args.bools.now c.loop-prob.prob-index 112 c.requires.short)

pub bytes_of-requires-clause-kept : goal.bytes_of-requires-clause-kept
bytes_of-requires-clause-kept c = rw c.loop-prob.invariant (prefix-kept c.args.bools.now c.loop-prob.prob-index c.requires.probs)
