-- Steps: the steps of a reader within a block (own).
use Rattle.std.specs.Prelude.{ℕ, ◌≡◌, ◌≤◌, ◌+◌, ◌-◌, Bool, List, ◌++◌, length, replicate, ℤ, pos, Result}
use Rattle.bit_list.specs.Units.{Cursor}
use Rattle.jpeg_marker.specs.HuffmanTables.{TableFields}
use Rattle.scan_spec.specs.ScanReading.{prefixed_values, acs_at}
use Rattle.scan_spec.specs.BlockBits.{in_zigzag}
use Rattle.scan_spec.specs.ScanSymbols.{Symbol}
use Rattle.scan_spec.specs.ScanSymbols as reading
use Rattle.scan_spec.specs.declared.refusal.ScanRefusal.{ScanRefusal}
use Rattle.scan_decode.specs.declared.acs.Step.{Step}
use Rattle.scan_decode.specs.declared.acs.Step.TheVariants as steps

-- what a step of the program says of a symbol
abbrev pub step_symbol : Step → Symbol
step_symbol (steps.Value zeros size) = reading.Value zeros size
step_symbol steps.Sixteen = reading.Sixteen
step_symbol steps.End = reading.End
step_symbol steps.Past = reading.Past
step_symbol steps.Loose = reading.Loose
step_symbol steps.Unknown = reading.Unknown

-- the coefficients below a zigzag index were read, the others are zeros still, and what is read after the first ones
-- is what the whole gives; `symbols` more of them are enough
pub record Going (whole : Result (List ℤ × Cursor) ScanRefusal) (table : TableFields)
    (bytes : List ℕ) (block : List ℤ) (index : ℕ) (loose : Bool)
    (cursor : Cursor) : Type 0 where
  pub prefix : List ℤ
  pub symbols : ℕ
  pub enough : 64 ≤ index + symbols
  pub long : length block ≡ 64
  pub count : length prefix ≡ index
  pub kept : in_zigzag block ≡ prefix ++ replicate (64 - index) (pos 0)
  pub rest : whole ≡ prefixed_values prefix (acs_at symbols table (64 - index) loose bytes cursor)

-- the same, of some coefficients that a target holds
abbrev pub IsGoing : (List ℤ → Type 0) → Result (List ℤ × Cursor) ScanRefusal → TableFields
    → List ℕ → ℕ → Bool → Cursor → Type 0
IsGoing holds whole table bytes index loose cursor =
    (block : List ℤ) × holds block × Going whole table bytes block index loose cursor
