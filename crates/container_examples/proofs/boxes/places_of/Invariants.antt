use Rattle.std.proofs.Common.{◌≡◌, ◌+◌, length, take}
use Rattle.std.specs.Prelude.{IfSome}
use Rattle.container_examples.proofs.boxes.places_of.Given as goal

abbrev pub invariant-loop-i : goal.invariant-loop-i
invariant-loop-i l = record {
  count : l.places ≡ length l.view.parts.handovers + 1;
  first : IfSome l.view.parts.places
      (λ places. (length places ≡ l.places) × (l.all.items ≡ take l.i places));
}
