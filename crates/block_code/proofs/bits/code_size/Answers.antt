use Rattle.std.proofs.Common.{arith}
use Rattle.block_code.proofs.BitSteps.{run_up, step_up}
use Rattle.coef_context.specs.BinBases.{bins_at}
use Rattle.block_code.proofs.bits.code_size.Goals as goal

pub loop-step-preserved : goal.loop-step-preserved
loop-step-preserved g c =
    let joined = g.met.C.Coder.joined _ _ _ _ _ c.loop-step.invariant.codes (rw (c.step.ensures.value, c.if-not-branch.false) at c.in_ok-code_branching.ensures.coded) in
    record {
      codes = rw (run_up ((bins_at c.args.bases).step) c.args.first c.loop-step.step c.loop-step.invariant.from) at joined;
      from = omega arith;
      to = omega arith;
      given = λ is. step_up c.args.size c.loop-step.step c.in_ok-code_branching.field-0 c.if-not-branch.false (rw c.is_above.ensures at c.in_ok-code_branching.ensures.same is);
    }
