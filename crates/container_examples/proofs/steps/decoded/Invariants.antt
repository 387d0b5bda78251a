use Rattle.std.proofs.Common.{◌≡◌, true, ℕ, List}
use Rattle.handover.specs.declared.outcome.Outcome.{Outcome}
use Rattle.segment_code.specs.Decoding.{Owes}
use Rattle.container_examples.proofs.steps.decoded.Given as goal

abbrev pub invariant-loop-taken : goal.invariant-loop-taken
invariant-loop-taken l = record {
  running : l.decoder.running ≡ true;
  owes : (bytes : List ℕ) × (outcome : Outcome) × Owes l.decoder bytes outcome;
  plan : l.decoder.plan ≡ l.fn.decoder.plan;
  begun : l.decoder.begun ≡ l.fn.decoder.begun;
}
