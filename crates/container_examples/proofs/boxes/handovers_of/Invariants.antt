use Rattle.std.proofs.Common.{◌≡◌, length, take}
use Rattle.container_examples.proofs.boxes.handovers_of.Given as goal

abbrev pub invariant-loop-i : goal.invariant-loop-i
invariant-loop-i l = record {
  count : l.segments ≡ length l.view.parts.handovers;
  first : l.all.items ≡ take l.i l.view.parts.handovers;
}
