-- Steps: the states of a reader and a writer of a scan, and what their calls make of them (own).
use Rattle.std.specs.Prelude.{ℕ, ◌≡◌, ◌==◌, if◌then◌else◌, List, ◌++◌, length, map, ℤ, Option, Some, None, Result, Ok, Err}
use Rattle.bit_list.specs.Units.{Cursor}
use Rattle.handover.specs.PadSums.{no_pads}
use Rattle.handover.specs.declared.pads.PadSum.{PadSum}
use Rattle.scan_spec.specs.BlockBits.{in_zigzag}
use Rattle.scan_spec.specs.Slots.{Shape}
use Rattle.scan_spec.specs.Scans.{Mcu}
use Rattle.scan_spec.specs.Spots.{Spot, first_spot, mcu_put}
use Rattle.scan_spec.specs.Pads.{PadBits, bit_for, padded_after}
use Rattle.scan_spec.specs.ScanReading.{Standing, standing_at, mcu_at}
use Rattle.scan_spec.specs.declared.refusal.ScanRefusal.{ScanRefusal}
use Rattle.scan_spec.specs.declared.stop.WriteStop.{WriteStop}

-- a reader: the scan, the bytes, where it is between two MCUs, and its refusal
pub record ScanReader : Type 0 where
  pub shape : Shape
  pub bytes : List ℕ
  pub at : Standing
  pub stop : Option ScanRefusal

-- a reader before the first MCU of the scan at a place
abbrev pub reader_at : Shape → List ℕ → ℕ → ScanReader
reader_at shape bytes place = record {
  shape = shape;
  bytes = bytes;
  at = standing_at place;
  stop = None;
}

-- the place from which bytes are needed to continue (own): that of a unit whose bits were read in part, or else of
-- the next one
abbrev pub resume_place : Cursor → ℕ
resume_place cursor = if length cursor.left == 0 then cursor.next else cursor.last

-- within an MCU: neither it nor its pad bits are counted
abbrev pub stopped_at : Standing → Standing → Standing
stopped_at old new = record old { cursor = new.cursor; before = new.before }

-- the next MCU was read; or it is refused, and isn't counted
abbrev pub McuIsReadOn : {A : Type 0} → ScanReader → Result A ScanRefusal → ScanReader
    → List (List ℤ)
    → Type 0
McuIsReadOn old (Ok done) new out =
    (mcu_at old.shape old.bytes old.at ≡ Ok (map in_zigzag out, new.at))
    × (new ≡ record old { at = new.at })
McuIsReadOn old (Err refusal) new out =
    (mcu_at old.shape old.bytes old.at ≡ Err refusal)
    × (new ≡ record old { at = stopped_at old.at new.at; stop = Some refusal })

-- a refusal is answered again, and changes nothing
abbrev pub McuIsRead : {A : Type 0} → Option ScanRefusal → ScanReader → Result A ScanRefusal
    → ScanReader → List (List ℤ) → Type 0
McuIsRead None old result new out = McuIsReadOn old result new out
McuIsRead (Some refusal) old result new out = (result ≡ Err refusal) × (new ≡ old)

-- a writer: the scan, its pad bits, where it leaves off, what was padded, and the cause why it stopped
pub record ScanWriter : Type 0 where
  pub shape : Shape
  pub pads : PadBits
  pub spot : Spot
  pub padded : PadSum
  pub stop : Option WriteStop

-- a writer before the first MCU
abbrev pub writer_of : Shape → PadBits → ScanWriter
writer_of shape pads = record {
  shape = shape;
  pads = pads;
  spot = first_spot;
  padded = no_pads;
  stop = None;
}

-- an MCU's bytes were appended, or none of them
abbrev pub McuIsPutOn : {A : Type 0} → ScanWriter → Mcu → List ℕ → Result A WriteStop → ScanWriter
    → List ℕ → Type 0
McuIsPutOn old mcu out (Ok done) new out_new =
    (text : List ℕ) × (mcu_put old.shape (bit_for old.pads) old.spot mcu ≡ Ok (text, new.spot))
    × (out_new ≡ out ++ text)
    × (new ≡ record old {
      spot = new.spot;
      padded = padded_after old.shape old.pads old.spot mcu old.padded;
    })
McuIsPutOn old mcu out (Err stop) new out_new =
    (mcu_put old.shape (bit_for old.pads) old.spot mcu ≡ Err stop) × (out_new ≡ out)
    × (new ≡ record old { stop = Some stop })

-- a stop is answered again, and changes nothing
abbrev pub McuIsPut : {A : Type 0} → Option WriteStop → ScanWriter → Mcu → List ℕ
    → Result A WriteStop
    → ScanWriter → List ℕ → Type 0
McuIsPut None old mcu out result new out_new = McuIsPutOn old mcu out result new out_new
McuIsPut (Some stop) old mcu out result new out_new =
    (result ≡ Err stop) × (out_new ≡ out) × (new ≡ old)
