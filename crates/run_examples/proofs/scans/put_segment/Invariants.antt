use Rattle.std.proofs.Common.{◌≡◌, true, ℕ, List}
use Rattle.handover.specs.declared.outcome.Outcome.{Outcome}
use Rattle.segment_code.specs.FileDecoding.{FileOwes}
use Rattle.run_examples.proofs.scans.put_segment.Given as goal

abbrev pub invariant-loop-taken : goal.invariant-loop-taken
invariant-loop-taken l = record {
  running : l.decoder.running ≡ true;
  owes : (bytes : List ℕ) × (outcome : Outcome) × FileOwes l.decoder bytes outcome;
  plans : l.decoder.plans ≡ l.fn.decoder.plans;
  begun : l.decoder.begun ≡ l.fn.decoder.begun;
}
