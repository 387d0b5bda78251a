use Rattle.std.proofs.Common.{◌≡◌, ◌≤◌, ◌+◌, ◌*◌, ◌^◌, drop}
use Rattle.segment_crew.specs.Worth.{blocks_in}
use Rattle.segment_crew.proofs.worth.blocks_in.Given as goal

abbrev pub invariant-loop-scan : goal.invariant-loop-scan
invariant-loop-scan l = record {
  value : l.blocks + blocks_in (drop l.scan l.view) ≡ blocks_in l.view;
  few : l.blocks ≤ l.scan * 2 ^ 56;
}
