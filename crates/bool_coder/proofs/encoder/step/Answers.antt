use Rattle.std.proofs.Common.{◌+◌, ◌*◌, arith}
use Rattle.bool_coder.proofs.EncoderStep.{Stepped, stepped}
use Rattle.bool_coder.proofs.encoder.step.Goals as goal

after_bool : (c : goal.After-widening-times) → Stepped c.args.low (c.args.less + 1) c.args.prob c.args.bit (c.choose-low.result.0 * c.widening-times.result.0) (c.widening-times.result.1 + 1)
after_bool c =
    let (k, few, power) = c.widening-times.ensures.power in
    rw (c.widening-times.ensures.less, power) (
    stepped c.args.low (c.args.less + 1) c.args.prob k c.args.bit _ _ c.requires.begun c.requires.short (omega arith) (omega arith) (omega arith) c.requires.one_carry
    c.choose-low.ensures.low c.choose-low.ensures.range (record { few = few; enough = rw power at c.widening-times.ensures.enough; no_more = rw power at c.widening-times.ensures.no_more }))

pub returns-clause-coded : goal.returns-clause-coded
returns-clause-coded c = (after_bool c).coded

pub returns-clause-few_more : goal.returns-clause-few_more
returns-clause-few_more c = (after_bool c).few_more

pub returns-clause-one_carry : goal.returns-clause-one_carry
returns-clause-one_carry c = (after_bool c).one_carry
