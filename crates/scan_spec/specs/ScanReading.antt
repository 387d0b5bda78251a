-- Steps: a scan read from a cursor on, MCU by MCU, with the first fault (ITU-T T.81, B.2.1, F.1.1.5.1, F.2.2). Blocks
-- are in zigzag order here.
use Rattle.std.specs.Prelude.{ℕ, zero, suc, ◌+◌, ◌-◌, Bool, true, false, ◌==◌, nat_le, if◌then◌else◌, List, [], ◌∷◌, ◌++◌, replicate, ℤ, pos, ◌+ℤ◌, unsigned_abs, slice_set, Option, Some, None, Result, Ok, Err}
use Rattle.bit_list.specs.Units.{Cursor, starting, bits_at}
use Rattle.coef_block.specs.Block.{most_dc}
use Rattle.huff_table.specs.Decoding.{value_at}
use Rattle.jpeg_marker.specs.HuffmanTables.{TableFields}
use Rattle.scan_spec.specs.ValueBits.{extend}
use Rattle.scan_spec.specs.BlockBits.{coefficient_at}
use Rattle.scan_spec.specs.Blocks.{last_dc}
use Rattle.scan_spec.specs.Slots.{Shape}
use Rattle.scan_spec.specs.Scans.{no_dcs}
use Rattle.scan_spec.specs.Spots.{is_closed, interval_number}
use Rattle.scan_spec.specs.ScanSymbols.{bits_refusal, code_refusal, Symbol, Value, Sixteen, End, Past, Loose, Unknown, symbol_of, pad_of, restart_at}
use Rattle.scan_spec.specs.declared.slot.Slot.{Slot}
use Rattle.scan_spec.specs.declared.refusal.ScanRefusal.{ScanRefusal}
use Rattle.scan_spec.specs.declared.refusal.ScanRefusal.TheVariants as refusals

-- what follows from a value, and a refusal as it is (own)
abbrev pub and_then : {A B : Type 0} → Result A ScanRefusal → (A → Result B ScanRefusal)
    → Result B ScanRefusal
and_then (Ok x) f = f x
and_then (Err refusal) f = Err refusal

-- a fault as its refusal (own)
abbrev pub refused_as : {A F : Type 0} → (F → ScanRefusal) → Result A F → Result A ScanRefusal
refused_as refusal (Ok x) = Ok x
refused_as refusal (Err fault) = Err (refusal fault)

-- the symbol of the code word at a cursor (F.2.2.3)
abbrev pub symbol_at : TableFields → List ℕ → Cursor → Result (ℕ × Cursor) ScanRefusal
symbol_at table bytes cursor = refused_as code_refusal (value_at table bytes cursor)

-- the value of a category's bits at a cursor (F.2.2.1, EXTEND)
abbrev pub extended_at : ℕ → List ℕ → Cursor → Result (ℤ × Cursor) ScanRefusal
extended_at size bytes cursor =
    and_then (refused_as bits_refusal (bits_at size bytes cursor))
    (λ bits. Ok (extend bits.0, bits.1))

-- a DC within the range of a block's, or its refusal (own)
abbrev pub within_dc : ℤ → Cursor → Result (ℤ × Cursor) ScanRefusal
within_dc dc cursor =
    if nat_le (unsigned_abs dc) most_dc then Ok (dc, cursor) else Err (refusals.DcRange cursor.last)

-- the difference of a category, by its bits at a cursor (F.2.2.1, Table F.1)
abbrev pub difference_at : List ℕ → ℕ × Cursor → Result (ℤ × Cursor) ScanRefusal
difference_at bytes size =
    if nat_le size.0 11 then extended_at size.0 bytes size.1
    else Err (refusals.SymbolBad size.1.last)

-- a DC, `before` being the component's DC before it (F.2.2.1)
unfoldable pub dc_at : TableFields → ℤ → List ℕ → Cursor → Result (ℤ × Cursor) ScanRefusal
dc_at table before bytes cursor =
    and_then (symbol_at table bytes cursor)
    (λ size. and_then (difference_at bytes size) (λ more. within_dc (before +ℤ more.0) more.1))

-- the coefficients after a symbol: by how many are left, and whether the symbol was sixteen zeros
abbrev pub Going : Type 0
Going = ℕ → Bool → Cursor → Result (List ℤ × Cursor) ScanRefusal

-- coefficients that were read, with others before them
abbrev pub prefixed_values : List ℤ → Result (List ℤ × Cursor) ScanRefusal
    → Result (List ℤ × Cursor) ScanRefusal
prefixed_values prefix rest = and_then rest (λ more. Ok (prefix ++ more.0, more.1))

-- the coefficients that a symbol begins (F.2.2.2)
abbrev pub by_symbol : Going → ℕ → List ℕ → Cursor → Symbol → Result (List ℤ × Cursor) ScanRefusal
by_symbol going left bytes cursor (Value zeros size) =
    and_then (extended_at size bytes cursor)
    (λ value. prefixed_values (replicate zeros (pos 0) ++ value.0 ∷ [])
    (going (left - (zeros + 1)) false value.1))
by_symbol going left bytes cursor Sixteen =
    prefixed_values (replicate 16 (pos 0)) (going (left - 16) true cursor)
by_symbol going left bytes cursor End = Ok (replicate left (pos 0), cursor)
by_symbol going left bytes cursor Past = Err (refusals.RunPast cursor.last)
by_symbol going left bytes cursor Loose = Err (refusals.LooseZeros cursor.last)
by_symbol going left bytes cursor Unknown = Err (refusals.SymbolBad cursor.last)

-- the `left` AC coefficients that remain, in zigzag order, by at most that many symbols (F.2.2.2)
unfoldable pub acs_at : ℕ → TableFields → ℕ → Bool → List ℕ → Cursor
    → Result (List ℤ × Cursor) ScanRefusal
acs_at zero table left loose bytes cursor = Ok ([], cursor)
acs_at (suc symbols) table left loose bytes cursor =
    if left == 0 then Ok ([], cursor)
    else and_then (symbol_at table bytes cursor)
    (λ symbol. by_symbol
    (λ more last at. acs_at symbols table more last bytes at) left bytes symbol.1
    (symbol_of left loose symbol.0))

-- a block in a slot (F.2.2.1, F.2.2.2)
unfoldable pub block_at : Slot → List ℤ → List ℕ → Cursor → Result (List ℤ × Cursor) ScanRefusal
block_at slot before bytes cursor =
    and_then (dc_at slot.codes.dc (last_dc before slot) bytes cursor)
    (λ dc. prefixed_values (dc.0 ∷ []) (acs_at 63 slot.codes.ac 63 false bytes dc.1))

-- blocks, the last DCs then, and the cursor after them
pub record BlocksRead : Type 0 where
  pub blocks : List (List ℤ)
  pub before : List ℤ
  pub cursor : Cursor

-- the last DC of each component after a block in zigzag order
abbrev pub dcs_after_read : List ℤ → Slot → List ℤ → List ℤ
dcs_after_read before slot block = slice_set before slot.component (coefficient_at block 0)

-- the blocks of an MCU in their slots (A.2.3)
unfoldable pub blocks_at : List Slot → List ℤ → List ℕ → Cursor → Result BlocksRead ScanRefusal
blocks_at [] before bytes cursor = Ok (record { blocks = []; before = before; cursor = cursor })
blocks_at (slot ∷ slots) before bytes cursor =
    and_then (block_at slot before bytes cursor)
    (λ block. and_then (blocks_at slots (dcs_after_read before slot block.0) bytes block.1)
    (λ more. Ok (record more { blocks = block.0 ∷ more.blocks })))

-- between two MCUs (own): the cursor, the last DC of each component in this interval, how many MCUs are before, and
-- the pad bit of the interval that the last of them ended, if it ended one that has any
pub record Standing : Type 0 where
  pub cursor : Cursor
  pub before : List ℤ
  pub count : ℕ
  pub pad : Option Bool

-- before the first MCU
abbrev pub standing_at : ℕ → Standing
standing_at place = record { cursor = starting place 0; before = no_dcs; count = 0; pad = None }

-- the pad bit, if the bits are equal, and the cursor after them
abbrev pub padded_or : Option (Option Bool) → Cursor → Result (Option Bool × Cursor) ScanRefusal
padded_or (Some pad) cursor = Ok (pad, record cursor { left = [] })
padded_or None cursor = Err (refusals.MixedPad cursor.last)

-- the bits that are left of the unit are pad bits (F.1.2.3)
abbrev pub pads_at : Cursor → Result (Option Bool × Cursor) ScanRefusal
pads_at cursor = padded_or (pad_of (Some None) cursor.left) cursor

-- after the pad bits of an interval: the scan is over, or the interval's marker is there
abbrev pub after_pads : Shape → List ℕ → ℕ → Option Bool × Cursor → Result Standing ScanRefusal
after_pads shape bytes count padded =
    if count + 1 == shape.mcus
    then Ok (record { cursor = padded.1; before = no_dcs; count = count + 1; pad = padded.0 })
    else and_then (restart_at bytes (interval_number shape count) padded.1.next)
    (λ place. Ok (record {
      cursor = starting place 0;
      before = no_dcs;
      count = count + 1;
      pad = padded.0;
    }))

-- after the blocks of an MCU
abbrev pub after_mcu : Shape → List ℕ → Standing → BlocksRead → Result Standing ScanRefusal
after_mcu shape bytes at read =
    if is_closed shape (at.count + 1)
    then and_then (pads_at read.cursor) (after_pads shape bytes at.count)
    else Ok (record {
      cursor = read.cursor;
      before = read.before;
      count = at.count + 1;
      pad = None;
    })

-- an MCU, with the pad bits and the marker after it
unfoldable pub mcu_at : Shape → List ℕ → Standing → Result (List (List ℤ) × Standing) ScanRefusal
mcu_at shape bytes at =
    and_then (blocks_at shape.slots at.before bytes at.cursor)
    (λ read. and_then (after_mcu shape bytes at read) (λ next. Ok (read.blocks, next)))

-- `count` MCUs
unfoldable pub mcus_at : ℕ → Shape → List ℕ → Standing
    → Result (List (List (List ℤ)) × Standing) ScanRefusal
mcus_at zero shape bytes at = Ok ([], at)
mcus_at (suc count) shape bytes at =
    and_then (mcu_at shape bytes at)
    (λ first. and_then (mcus_at count shape bytes first.1)
    (λ more. Ok (first.0 ∷ more.0, more.1)))

-- the scan at a place
abbrev pub scan_at : Shape → List ℕ → ℕ → Result (List (List (List ℤ)) × Standing) ScanRefusal
scan_at shape bytes place = mcus_at shape.mcus shape bytes (standing_at place)
