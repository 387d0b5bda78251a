use Rattle.std.proofs.Common.{◌≡◌, length, take, map}
use Rattle.container_examples.proofs.boxes.streams_of.Given as goal

abbrev pub invariant-loop-i : goal.invariant-loop-i
invariant-loop-i l = record {
  count : l.segments ≡ length l.view.parts.handovers;
  long : length l.view.parts.streams ≡ length l.view.parts.handovers;
  first : map (λ v. v.items) l.all.items ≡ take l.i l.view.parts.streams;
}
