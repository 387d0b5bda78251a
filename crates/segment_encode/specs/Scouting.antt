-- Steps: what a scout's work comes to (own).
use Rattle.std.specs.Prelude.{ℕ, ◌≡◌, List, []}
use Rattle.scan_spec.specs.Slots.{Shape}
use Rattle.scan_decode.specs.Excerpts.{ScoutFields}

-- of the same scan in the same bytes
pub record HasScouted (old new : ScoutFields) : Type 0 where
  pub shape : new.shape ≡ old.shape
  pub bytes : new.bytes ≡ old.bytes

-- a scout of a scan, before its work
abbrev pub new_scout : Shape → List ℕ → ScoutFields
new_scout shape bytes = record { shape = shape; bytes = bytes; excerpts = [] }
