use Rattle.std.proofs.Common.{sym, arith, rules}
use Rattle.bool_coder.specs.BoolStream.{after}
use Rattle.bool_coder.specs.PlainLine.{interval}
use Rattle.bool_coder.proofs.PlainSteps.{plain-sum}
use Rattle.bool_coder.proofs.plain.one_more.Goals as goal

pub overflow_add-line : goal.overflow_add-line
overflow_add-line c = let below = plain-sum (interval c.args.line) c.args.prob c.requires.kept c.requires.short (omega arith) in search rules

pub returns-then-bit : goal.returns-then-bit
unfolding after
returns-then-bit c = rw (c.if-bit.true, sym c.from.ensures) (rw c.from-then-bit.ensures at c.widen.ensures)

pub returns-else-bit : goal.returns-else-bit
unfolding after
returns-else-bit c = rw (c.if-bit.false, sym c.from.ensures) c.widen-else-bit.ensures
