-- Steps: what a call answers, with the cursor after it, as the definitions of a scan have it (own).
use Rattle.std.specs.Prelude.{ℕ, List, [], ◌∷◌, ℤ, false, Result, Ok, Err}
use Rattle.bit_list.specs.Units.{Cursor}
use Rattle.huff_table.specs.declared.plan_codes.ComponentCodes.{ComponentCodes}
use Rattle.scan_spec.specs.ScanReading.{and_then, dc_at, acs_at, prefixed_values, BlocksRead, Standing}
use Rattle.scan_spec.specs.declared.refusal.ScanRefusal.{ScanRefusal}

-- a value and the cursor after it, or a refusal
abbrev pub at_cursor : {A : Type 0} → Result A ScanRefusal → Cursor
    → Result (A × Cursor) ScanRefusal
at_cursor (Ok x) cursor = Ok (x, cursor)
at_cursor (Err refusal) cursor = Err refusal

-- values that a call put elsewhere
abbrev pub values_at_cursor : {A B : Type 0} → Result A ScanRefusal → B → Cursor
    → Result (B × Cursor) ScanRefusal
values_at_cursor (Ok done) values cursor = Ok (values, cursor)
values_at_cursor (Err refusal) values cursor = Err refusal

-- a block in zigzag order, after one with the DC before
abbrev pub coded_at : ComponentCodes → ℤ → List ℕ → Cursor → Result (List ℤ × Cursor) ScanRefusal
coded_at codes before bytes cursor =
    and_then (dc_at codes.dc before bytes cursor)
    (λ dc. prefixed_values (dc.0 ∷ []) (acs_at 63 codes.ac 63 false bytes dc.1))

-- an MCU that a call put elsewhere, and where the reader is after it
abbrev pub mcu_read : {A B C : Type 0} → Result A ScanRefusal → B → C → Result (B × C) ScanRefusal
mcu_read (Ok done) values at = Ok (values, at)
mcu_read (Err refusal) values at = Err refusal

-- where the reader is after the end of an interval
abbrev pub standing_read : {A C : Type 0} → Result A ScanRefusal → C → Result C ScanRefusal
standing_read (Ok done) at = Ok at
standing_read (Err refusal) at = Err refusal

-- the blocks of an MCU before a reader's place, of which nothing but that place is wanted
abbrev pub after_blocks : Standing → BlocksRead
after_blocks at = record { blocks = []; before = at.before; cursor = at.cursor }
