use Rattle.std.proofs.Common.{◌-◌}
use Rattle.bool_coder.proofs.PlainSteps.{Widening}
use Rattle.bool_coder.proofs.plain.widen.Given as goal

abbrev pub invariant-loop-range : goal.invariant-loop-range
invariant-loop-range l =
    Widening (record { bottom = l.initial.bottom; range = l.initial.range; shifts = l.initial.shifts }) (record { bottom = l.bottom; range = l.range; shifts = l.shifts })

abbrev pub decreases-loop-range : goal.decreases-loop-range
decreases-loop-range l = 128 - l.range
