use Rattle.std.proofs.Common.{◌≡◌, ◌+◌, ◌-◌, ◌^◌, ◌<◌, [], ◌∷◌, List, ℕ, length, map, drop, min, sum}
use Rattle.std.specs.Prelude.{Option}
use Rattle.box_format.specs.Versions.{layout_of}
use Rattle.box_format.specs.Parts.{in_version}
use Rattle.box_format.specs.Given.{scans_room}
use Rattle.box_format.proofs.converting.room.Given as goal

abbrev pub invariant-loop-i : goal.invariant-loop-i
invariant-loop-i l = record {
  small : l.room < 2 ^ 64;
  left : (places : Option (List ℕ))
      → min (2 ^ 64 - 1) (l.room
      + sum (map (λ (stream : List ℕ). (layout_of l.fn.version).room + length stream) (drop l.i l.view.parts.streams)))
      ≡ min (2 ^ 64 - 1) (scans_room l.fn.version (in_version l.fn.version places l.view.parts ∷ []));
}
