-- Law: segments joined are the scan (docs/FORMAT.md, Segments).
use Rattle.std.specs.Prelude.{ℕ, zero, suc, ◌≡◌, ◌+◌, ◌*◌, ◌<◌, ◌≤◌, Bool, List, [], ◌∷◌, length, flat_map, Ok}
use Rattle.scan_spec.specs.Slots.{Shape}
use Rattle.scan_spec.specs.Scans.{Mcu, AreMcus, scan_bytes}
use Rattle.scan_spec.specs.Spots.{Spot, mcus_put, spot_at}
use Rattle.scan_spec.specs.ScanLaws.{IsShape}
use Rattle.cut_spec.specs.Cuts.{Cut, first_mcu}
use Rattle.cut_spec.specs.RowHandovers.{handover_of, handover_at, spot_of, segment_bytes, mcus_between}

-- a segment that starts from what the MCUs before hand over puts its slice of the scan, and leaves off where the MCUs
-- after it start
abbrev pub EachIsItsSlice : Type 0
EachIsItsSlice =
    (shape : Shape) (pads : ℕ → Bool) (mcus : List Mcu) (scan : List ℕ) (from to : ℕ)
    → IsShape shape → AreMcus shape mcus → scan_bytes shape pads mcus ≡ Ok scan
    → from ≤ to → to ≤ shape.mcus
    → mcus_put shape pads (spot_of (handover_at shape pads mcus from) from)
    (mcus_between mcus from to)
    ≡ Ok (segment_bytes shape pads mcus scan from to, spot_at shape pads mcus to)

-- slices of these, from the one with a number on, cut at these MCUs
abbrev pub slices : (ℕ → ℕ → List ℕ) → (ℕ → ℕ) → ℕ → ℕ → List (List ℕ)
slices slice cut i zero = []
slices slice cut i (suc more) = slice (cut i) (cut (i + 1)) ∷ slices slice cut (i + 1) more

-- slices of a scan are the scan, whatever the cuts are, if none is before an earlier one
abbrev pub JoinedAreTheScan : Type 0
JoinedAreTheScan =
    (shape : Shape) (pads : ℕ → Bool) (mcus : List Mcu) (scan : List ℕ) (cut : ℕ → ℕ)
    (segments : ℕ) → IsShape shape → AreMcus shape mcus → scan_bytes shape pads mcus ≡ Ok scan
    → cut 0 ≡ 0 → cut segments ≡ shape.mcus
    → ((i : ℕ) → i < segments → cut i ≤ cut (i + 1))
    → flat_map (λ bytes. bytes)
    (slices (λ from to. segment_bytes shape pads mcus scan from to) cut 0 segments)
    ≡ scan

-- rows are such cuts
abbrev pub RowsAreCuts : Type 0
RowsAreCuts =
    (cut : Cut) → cut.from ≡ 0 → 0 < cut.segments
    → (first_mcu cut 0 ≡ 0) × (first_mcu cut cut.segments ≡ cut.across * cut.to)
    × ((i : ℕ) → i < cut.segments → first_mcu cut i ≤ first_mcu cut (i + 1))

-- and if there are no more segments than rows, each has an MCU
abbrev pub EachHasRows : Type 0
EachHasRows =
    (cut : Cut) (i : ℕ) → cut.from ≡ 0 → cut.segments ≤ cut.to → i < cut.segments
    → 0 < cut.across → first_mcu cut i < first_mcu cut (i + 1)

-- a handover determines its spot
abbrev pub HandoverIsSpot : Type 0
HandoverIsSpot =
    (shape : Shape) (spot : Spot) → length spot.begun < 8
    → spot_of (handover_of shape spot) spot.count ≡ spot

-- between two MCUs fewer than eight bits are begun, and the count of MCUs is that of those that were put
abbrev pub SpotsAreBegun : Type 0
SpotsAreBegun =
    (shape : Shape) (pads : ℕ → Bool) (mcus : List Mcu) (from to : Spot) (bytes : List ℕ)
    → length from.begun < 8 → mcus_put shape pads from mcus ≡ Ok (bytes, to)
    → (length to.begun < 8) × (to.count ≡ from.count + length mcus)
