-- Statement: a scan's bytes MCU by MCU, from any of them on: what a writer puts at a time (ITU-T T.81, B.2.1, E.1.4,
-- F.1.2.3).
use Rattle.std.specs.Prelude.{ℕ, ◌+◌, ◌/◌, Bool, ◌||◌, ◌==◌, if◌then◌else◌, List, [], ◌∷◌, ◌++◌, length, take, ℤ, Result, Ok, Err}
use Rattle.bit_list.specs.Bits.{bytes_after, begun_after, padding, stuffed}
use Rattle.scan_spec.specs.BlockBits.{Text}
use Rattle.scan_spec.specs.Blocks.{blocks_text, dcs_after}
use Rattle.scan_spec.specs.Slots.{Shape}
use Rattle.scan_spec.specs.Scans.{Mcu, no_dcs, ends_interval, restart_marker}
use Rattle.scan_spec.specs.declared.stop.WriteStop.{WriteStop}

-- between two MCUs (own): the bits of a byte begun, at most 7, the last DC of each component in this interval, and how
-- many MCUs are before
pub record Spot : Type 0 where
  pub begun : List Bool
  pub before : List ℤ
  pub count : ℕ

-- before the first MCU
abbrev pub first_spot : Spot
first_spot = record { begun = []; before = no_dcs; count = 0 }

-- whether an interval or the scan ends after this many MCUs (B.2.4.4)
abbrev pub is_closed : Shape → ℕ → Bool
is_closed shape count = count == shape.mcus || ends_interval shape.interval count

-- the number of the interval of the MCU after `count` others, from 0; without restarts there is one interval
abbrev pub interval_number : Shape → ℕ → ℕ
interval_number shape count = if shape.interval == 0 then 0 else count / shape.interval

-- the marker after the MCU that follows `count` others and ends an interval; none after the last MCU (B.2.1)
abbrev pub marker_after : Shape → ℕ → List ℕ
marker_after shape count =
    if count + 1 == shape.mcus then [] else restart_marker (interval_number shape count)

-- the bytes that an MCU's bits complete, and the spot after it; `before` has the last DCs then
abbrev pub put_bits : Shape → (ℕ → Bool) → Spot → List ℤ → List Bool → List ℕ × Spot
put_bits shape pads spot before bits =
    if is_closed shape (spot.count + 1)
    then (
      stuffed (bytes_after spot.begun
          (bits ++ padding (begun_after spot.begun bits) (pads (interval_number shape spot.count))))
          ++ marker_after shape spot.count,
      record { begun = []; before = no_dcs; count = spot.count + 1 },
    )
    else (
      stuffed (bytes_after spot.begun bits),
      record { begun = begun_after spot.begun bits; before = before; count = spot.count + 1 },
    )

-- bytes and the spot after them, or the first cause in writing order why there are none (own)
abbrev pub Put : Type 0
Put = Result (List ℕ × Spot) WriteStop

-- of an MCU's text
abbrev pub put_text : Shape → (ℕ → Bool) → Spot → List ℤ → Text → Put
put_text shape pads spot before (Ok bits) = Ok (put_bits shape pads spot before bits)
put_text shape pads spot before (Err stop) = Err stop

-- of an MCU (A.2, F.1.2)
unfoldable pub mcu_put : Shape → (ℕ → Bool) → Spot → Mcu → Put
mcu_put shape pads spot mcu =
    put_text shape pads spot (dcs_after shape.slots spot.before mcu)
    (blocks_text shape.slots spot.before mcu)

-- with bytes before them
abbrev pub prefixed_put : List ℕ → Put → Put
prefixed_put prefix (Ok more) = Ok (prefix ++ more.0, more.1)
prefixed_put prefix (Err stop) = Err stop

-- bytes and then those from the spot after them
abbrev pub then_put : Put → (Spot → Put) → Put
then_put (Ok prefix) more = prefixed_put prefix.0 (more prefix.1)
then_put (Err stop) more = Err stop

-- of MCUs, one after another
unfoldable pub mcus_put : Shape → (ℕ → Bool) → Spot → List Mcu → Put
mcus_put shape pads spot [] = Ok ([], spot)
mcus_put shape pads spot (mcu ∷ mcus) =
    then_put (mcu_put shape pads spot mcu) (λ next. mcus_put shape pads next mcus)

-- what the first n MCUs of a scan put (own)
abbrev pub put_first : Shape → (ℕ → Bool) → List Mcu → ℕ → Put
put_first shape pads mcus n = mcus_put shape pads first_spot (take n mcus)

-- how many bytes were put, none if a cause stops them
abbrev pub count_in : Put → ℕ
count_in (Ok made) = length made.0
count_in (Err stop) = 0

-- the spot after them, the first one if a cause stops them
abbrev pub spot_in : Put → Spot
spot_in (Ok made) = made.1
spot_in (Err stop) = first_spot

-- how many bytes of a scan its first n MCUs complete (own): with the zeros that are stuffed and the marker after an MCU
-- that ends an interval
abbrev pub bytes_done : Shape → (ℕ → Bool) → List Mcu → ℕ → ℕ
bytes_done shape pads mcus n = count_in (put_first shape pads mcus n)

-- the spot after a scan's first n MCUs (own)
abbrev pub spot_at : Shape → (ℕ → Bool) → List Mcu → ℕ → Spot
spot_at shape pads mcus n = spot_in (put_first shape pads mcus n)
