use Rattle.std.proofs.Common.{◌≡◌, ◌+◌}
use Rattle.segment_code.specs.ScanPasses.{IsPass, segments_left}
use Rattle.segment_code.proofs.find.find_starts.Given as goal

abbrev pub invariant-loop : goal.invariant-loop
invariant-loop l = record {
  is : IsPass l.pass;
  plan : l.pass.plan ≡ l.plan;
  bytes : l.pass.bytes ≡ l.bytes;
  most : l.pass.most ≡ l.segments;
  left : l.counter + segments_left l.pass ≡ l.end;
}
