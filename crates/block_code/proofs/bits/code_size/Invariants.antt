use Rattle.std.proofs.Common.{◌-◌, ◌≤◌, IfSome, IsTrue}
use Rattle.coef_context.specs.BinBases.{bins_at}
use Rattle.block_spec.specs.BitEvents.{ones}
use Rattle.block_code.proofs.bits.code_size.Given as goal

abbrev pub invariant-loop-step : goal.invariant-loop-step
invariant-loop-step g l = record {
  codes : g.C.Coder.codes l.initial.coder (ones ((bins_at l.bases).step) l.first (l.step - l.first)) l.coder;
  from : l.first ≤ l.step;
  to : l.step ≤ l.steps;
  given : IsTrue g.C.Coder.given → IfSome l.size (λ s. l.step ≤ s);
}

abbrev pub decreases-loop-step : goal.decreases-loop-step
decreases-loop-step g l = l.steps - l.step
