use Rattle.std.specs.Prelude.{◌≡◌, ◌∷◌, []}
use Rattle.range_read.specs.Lanes.{AreMeasuredUpTo}
use Rattle.range_read.proofs.measure.measure_in_turn.Given as goal

abbrev pub invariant-loop-segment : goal.invariant-loop-segment
invariant-loop-segment l = record {
  plans : l.decoder.plans ≡ l.scan.plan ∷ [];
  begun : l.decoder.begun ≡ l.segment;
  so_far : AreMeasuredUpTo l.scan l.segment l.measures.items;
}
