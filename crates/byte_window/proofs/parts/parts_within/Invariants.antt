use Rattle.std.proofs.Common.{◌≡◌}
use Rattle.byte_window.specs.Slices.{cover_of}
use Rattle.byte_window.proofs.parts.parts_within.Given as goal

abbrev pub invariant-loop-part : goal.invariant-loop-part
invariant-loop-part g l = record {
  first : l.parts.0 ≡ (cover_of (g.P.Places.place l.places) l.part l.from l.to).from;
  past : l.parts.1 ≡ (cover_of (g.P.Places.place l.places) l.part l.from l.to).to;
}
