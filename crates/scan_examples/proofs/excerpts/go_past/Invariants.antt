use Rattle.std.proofs.Common.{◌≡◌}
use Rattle.scan_examples.proofs.excerpts.go_past.Given as goal

abbrev pub invariant-loop : goal.invariant-loop
invariant-loop l = record {
  shape : l.reader.shape ≡ l.initial.reader.shape;
  bytes : l.reader.bytes ≡ l.initial.reader.bytes;
}
