use Rattle.std.proofs.Common.{◌∙◌}
use Rattle.run_examples.proofs.scans.put_segment.Goals as goal

pub loop-taken-preserved : goal.loop-taken-preserved
loop-taken-preserved c =
    let owes = c.loop-taken.invariant.owes in
    let paid = c.in-More.ensures.pays owes.0 owes.1 owes.2 in
    record {
      running = paid.4;
      owes = (paid.0, owes.1, paid.5);
      plans = c.step-step.ensures.plans ∙ c.loop-taken.invariant.plans;
      begun = c.step-step.ensures.begun ∙ c.loop-taken.invariant.begun;
    }
