use Rattle.std.proofs.Common.{◌*◌, ◌+◌, refl, subst, arith, rules}
use Rattle.bool_coder.specs.BoolStream.{Interval, doubled}
use Rattle.bool_coder.proofs.Line.{same_interval}
use Rattle.bool_coder.proofs.PlainSteps.{Widening, Widening-begins, Widening-goes_on, Widening-ends, Widening-fits}
use Rattle.bool_coder.proofs.plain.widen.Goals as goal

pub loop-range-init : goal.loop-range-init
loop-range-init c = Widening-begins _ c.requires.some c.requires.byte c.requires.short c.requires.on_line

pub overflow_mul-bottom : goal.overflow_mul-bottom
overflow_mul-bottom c = let below = Widening-fits _ _ c.loop-range.invariant in search rules

pub loop-range-preserved : goal.loop-range-preserved
loop-range-preserved c =
    let start : Interval = record { bottom = c.args.bottom; range = c.args.range; shifts = c.args.shifts } in
    let now : Interval = record { bottom = c.loop-range.bottom; range = c.loop-range.range; shifts = c.loop-range.shifts } in
    let twice : Interval = record { bottom = c.loop-range.bottom * 2; range = c.loop-range.range * 2; shifts = c.loop-range.shifts + 1 } in
    let P : Interval → Type 0 = λ i. Widening start i in
    subst P (same_interval (doubled now) twice (omega arith) (omega arith) refl) (Widening-goes_on start now c.loop-range.invariant c.loop-range-test.true)

pub returns : goal.returns
returns c = Widening-ends _ _ c.loop-range.invariant c.loop-range-test.false
