-- Law: what holds of readers at handovers (docs/FORMAT.md, Segments).
use Rattle.std.specs.Prelude.{ℕ, ◌≡◌, ◌+◌, ◌-◌, ◌<◌, ◌≤◌, Bool, List, Ok}
use Rattle.scan_spec.specs.Slots.{Shape}
use Rattle.scan_spec.specs.Scans.{Mcu, pad_at}
use Rattle.scan_spec.specs.Spots.{bytes_done, spot_at}
use Rattle.scan_spec.specs.ScanCalls.{resume_place}
use Rattle.scan_spec.specs.ScanLaws.{IsShape, Begins, zigzag_of}
use Rattle.scan_spec.specs.ScanReading.{Standing, standing_at, mcus_at}
use Rattle.cut_spec.specs.HandedOver.{spot_in, standing_from}
use Rattle.cut_spec.specs.RowHandovers.{handover_at, mcus_between}

-- where a reader is that has read a scan's first n MCUs: at what these hand over, and at the place of the first byte
-- that they don't complete
pub record StandsAt (shape : Shape) (pads : ℕ → Bool) (mcus : List Mcu) (bytes : List ℕ)
    (place n : ℕ) (at : Standing) : Type 0 where
  pub spot : spot_in bytes at ≡ spot_at shape pads mcus n
  pub resumes : resume_place at.cursor ≡ place + bytes_done shape pads mcus n

-- a scan's first n MCUs are read from its start, and hand over
abbrev pub FirstAreRead : Type 0
FirstAreRead =
    (shape : Shape) (bytes : List ℕ) (place after : ℕ) (mcus : List Mcu) (pads : List Bool)
    (n : ℕ) → IsShape shape → Begins shape mcus pads bytes place after → n ≤ shape.mcus
    → (at : Standing)
    × (mcus_at n shape bytes (standing_at place) ≡ Ok (zigzag_of (mcus_between mcus 0 n), at))
    × StandsAt shape (pad_at pads) mcus bytes place n at

-- the MCUs from one on, up to before another, are read from what those before hand over, and hand over in turn
abbrev pub SegmentIsRead : Type 0
SegmentIsRead =
    (shape : Shape) (bytes : List ℕ) (place after : ℕ) (mcus : List Mcu) (pads : List Bool)
    (from to : ℕ) → IsShape shape → Begins shape mcus pads bytes place after
    → from < to → to ≤ shape.mcus
    → (at : Standing)
    × (mcus_at (to - from) shape bytes
    (standing_from bytes (handover_at shape (pad_at pads) mcus from) from
    (place + bytes_done shape (pad_at pads) mcus from))
    ≡ Ok (zigzag_of (mcus_between mcus from to), at))
    × StandsAt shape (pad_at pads) mcus bytes place to at
