-- Statement: what is handed over between two MCUs of a scan, and which bytes the MCUs before complete
-- (docs/FORMAT.md, Segments).
use Rattle.std.specs.Prelude.{ℕ, ◌-◌, Bool, false, List, ◌++◌, length, take, drop, replicate, min}
use Rattle.bit_list.specs.Bits.{low_bits, number_of}
use Rattle.scan_spec.specs.Slots.{Shape}
use Rattle.scan_spec.specs.Scans.{Mcu}
use Rattle.scan_spec.specs.Spots.{Spot, interval_number, bytes_done, spot_at}
use Rattle.handover.specs.Handovers.{HandoverFields}

-- how many restart markers the first `count` MCUs put (T.81 B.2.4.4): none follows the last MCU
abbrev pub markers_before : Shape → ℕ → ℕ
markers_before shape count = interval_number shape (min count (shape.mcus - 1))

-- a byte whose first bits these are, with zeros after them (own)
abbrev pub partial_byte : List Bool → ℕ
partial_byte bits = number_of (bits ++ replicate (8 - length bits) false)

-- what a spot hands over (own)
abbrev pub handover_of : Shape → Spot → HandoverFields
handover_of shape spot = record {
  partial = partial_byte spot.begun;
  bits = length spot.begun;
  preds = spot.before;
  restarts = markers_before shape spot.count;
}

-- and the spot of a handover after `count` MCUs (own)
abbrev pub spot_of : HandoverFields → ℕ → Spot
spot_of h count =
    record { begun = take h.bits (low_bits 8 h.partial); before = h.preds; count = count }

-- what a scan's first n MCUs hand over (own)
abbrev pub handover_at : Shape → (ℕ → Bool) → List Mcu → ℕ → HandoverFields
handover_at shape pads mcus n = handover_of shape (spot_at shape pads mcus n)

-- the bytes of a scan that the MCUs from one on, up to before another, complete (own)
abbrev pub segment_bytes : Shape → (ℕ → Bool) → List Mcu → List ℕ → ℕ → ℕ → List ℕ
segment_bytes shape pads mcus scan from to =
    drop (bytes_done shape pads mcus from) (take (bytes_done shape pads mcus to) scan)

-- these MCUs (own)
abbrev pub mcus_between : List Mcu → ℕ → ℕ → List Mcu
mcus_between mcus from to = take (to - from) (drop from mcus)
