-- Steps: excerpts of a scan, which are read before anyone knows how many MCUs are before them (own).
use Rattle.std.specs.Prelude.{ℕ, ◌≡◌, ◌<◌, ◌≤◌, ◌+◌, List, [], ◌∷◌, length, ℤ, ◌+ℤ◌, unsigned_abs, None, Ok}
use Rattle.std.specs.List.{All}
use Rattle.bit_list.specs.Units.{Cursor, Reading}
use Rattle.scan_spec.specs.Slots.{Shape}
use Rattle.scan_spec.specs.ScanCalls.{ScanReader}
use Rattle.scan_spec.specs.ScanReading.{Standing, mcus_at}

-- MCUs of a scan, one after another: where the first one starts and the last one ends, how much they change the last DC
-- of each component, and how many they are
pub record ExcerptFields : Type 0 where
  pub from : Reading
  pub to : Reading
  pub change : List ℤ
  pub mcus : ℕ

-- DCs after a change; those past it stay
unfoldable pub added : List ℤ → List ℤ → List ℤ
added [] change = []
added (dc ∷ dcs) [] = dc ∷ dcs
added (dc ∷ dcs) (more ∷ change) = (dc +ℤ more) ∷ added dcs change

-- A DC that an excerpt may follow, and a change that its MCUs may come to. Ten blocks, the most of an MCU, change a DC
-- by 20,470 at most. So within one MCU more it is at most 4,096 + 8,192 + 20,470 = 32,758 from 0: a block may have it.
abbrev pub IsNear : ℤ → Type 0
IsNear dc = unsigned_abs dc ≤ 4096

abbrev pub IsChange : ℤ → Type 0
IsChange more = unsigned_abs more ≤ 8192

-- between two MCUs of an interval
abbrev pub standing_in : Cursor → List ℤ → ℕ → Standing
standing_in cursor before count =
    record { cursor = cursor; before = before; count = count; pad = None }

-- From one cursor to another there are `n` MCUs, however many are before, if the scan has others after them. They
-- change the last DCs by the same amounts, whatever these are within 4,096 of 0.
abbrev pub AreAnywhere : ℕ → Shape → List ℕ → Cursor → Cursor → List ℤ → Type 0
AreAnywhere n shape bytes from to change =
    (before : List ℤ) (count : ℕ) → length before ≡ 4 → All IsNear before → count + n < shape.mcus
    → (mcus : List (List (List ℤ))) × (mcus_at n shape bytes (standing_in from before count)
    ≡ Ok (mcus, standing_in to (added before change) (count + n)))

-- an excerpt of a scan that has no restarts
pub record IsExcerpt (shape : Shape) (bytes : List ℕ) (e : ExcerptFields) : Type 0 where
  pub whole : shape.interval ≡ 0
  pub from : e.from.bytes ≡ bytes
  pub to : e.to.bytes ≡ bytes
  pub change : All IsChange e.change
  pub are : AreAnywhere e.mcus shape bytes e.from.cursor e.to.cursor e.change

-- a reader without a refusal is at the start of an excerpt, after DCs near 0 and no pad bit, and the scan has MCUs
-- after the excerpt
pub record Meets (reader : ScanReader) (e : ExcerptFields) : Type 0 where
  pub cursor : reader.at.cursor ≡ e.from.cursor
  pub before : All IsNear reader.at.before
  pub more : reader.at.count + e.mcus < reader.shape.mcus
  pub pad : reader.at.pad ≡ None
  pub start : reader.stop ≡ None

-- what reads excerpts: the scan, its bytes, and those that were read
pub record ScoutFields : Type 0 where
  pub shape : Shape
  pub bytes : List ℕ
  pub excerpts : List ExcerptFields
