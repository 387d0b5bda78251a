-- Statement: the items of a scan, one after the other, and where they stop (ITU-T T.81, B.2.1, F.1.2, F.2.2): code
-- words, bits of categories, pad bits and restart markers.
use Rattle.std.specs.Prelude.{ℕ, ◌≡◌, ◌+◌, ◌-◌, Bool, true, false, ◌==◌, nat_le, if◌then◌else◌, List, [], ◌∷◌, ◌++◌, length, ℤ, ◌+ℤ◌, unsigned_abs, slice_set, Option, Some, None, unwrap_or, Ok, Err}
use Rattle.bit_list.specs.Units.{Cursor, starting, bits_at}
use Rattle.coef_block.specs.Block.{most_dc}
use Rattle.bit_list.specs.declared.fault.BitFault.{BitFault}
use Rattle.jpeg_marker.specs.HuffmanTables.{TableFields}
use Rattle.huff_table.specs.CodeWords.{word_of}
use Rattle.huff_table.specs.Decoding.{IsFaultAt}
use Rattle.huff_table.specs.declared.fault.CodeFault.{CodeFault}
use Rattle.scan_spec.specs.ValueBits.{extend}
use Rattle.scan_spec.specs.Blocks.{last_dc}
use Rattle.scan_spec.specs.Slots.{Shape}
use Rattle.scan_spec.specs.Scans.{no_dcs}
use Rattle.scan_spec.specs.Spots.{is_closed, interval_number}
use Rattle.scan_spec.specs.ScanSymbols.{Symbol, Value, Sixteen, End, Past, Loose, Unknown, symbol_of, pad_of, restart_at, bits_refusal, code_refusal}
use Rattle.scan_spec.specs.declared.slot.Slot.{Slot}
use Rattle.scan_spec.specs.declared.refusal.ScanRefusal.{ScanRefusal}
use Rattle.scan_spec.specs.declared.refusal.ScanRefusal.TheVariants as refusals

-- The item that is due (own). In a slot: the word of a DC's category; the bits of a DC of a category; the word of a
-- symbol, by how many coefficients are left and whether F0 came before it; the bits of a coefficient, by how many are
-- left after it and its category. The pad bits of an interval, its marker, or none. After an item that can't be
-- there: its refusal.
pub data Due : Type 0 where
  DcWord : Slot → Due
  DcBits : Slot → ℕ → Due
  AcWord : Slot → ℕ → Bool → Due
  AcBits : Slot → ℕ → ℕ → Due
  Pads : Due
  Marker : Due
  Over : Due
  Wrong : (ℕ → ScanRefusal) → Due

-- so far (own): the further slots of this MCU, the last DC of each component in this interval, how many MCUs came
-- before, and the pad bits of the intervals before, 1 if one pads none
pub record Run : Type 0 where
  pub slots : List Slot
  pub before : List ℤ
  pub count : ℕ
  pub pads : List Bool

-- both (own)
pub record Stage : Type 0 where
  pub due : Due
  pub run : Run

-- the first slot of a whole MCU is due
abbrev pub slots_due : Run → List Slot → Stage
slots_due run [] = record { due = Over; run = record run { slots = [] } }
slots_due run (slot ∷ slots) = record { due = DcWord slot; run = record run { slots = slots } }

-- at the start of an MCU
abbrev pub mcu_due : Shape → Run → Stage
mcu_due shape run = slots_due run shape.slots

-- at the start of a scan
abbrev pub first_stage : Shape → Stage
first_stage shape = mcu_due shape (record { slots = []; before = no_dcs; count = 0; pads = [] })

-- after the last block of an MCU the pad bits are due, or another MCU
abbrev pub mcu_over : Shape → Run → Stage
mcu_over shape run =
    if is_closed shape (run.count + 1)
    then record { due = Pads; run = record run { count = run.count + 1 } }
    else mcu_due shape (record run { count = run.count + 1 })

-- after a block the next slot's is due
abbrev pub after_slots : Shape → Run → List Slot → Stage
after_slots shape run [] = mcu_over shape run
after_slots shape run (slot ∷ slots) = record {
  due = DcWord slot;
  run = record run { slots = slots };
}

-- after a block of this MCU
abbrev pub block_over : Shape → Run → Stage
block_over shape run = after_slots shape run run.slots

-- after the word of a DC's category
abbrev pub size_over : Slot → ℕ → Due
size_over slot size = if nat_le size 11 then DcBits slot size else Wrong refusals.SymbolBad

-- after a DC
abbrev pub dc_over : Run → Slot → ℤ → Stage
dc_over run slot dc =
    if nat_le (unsigned_abs dc) most_dc
    then record {
      due = AcWord slot 63 false;
      run = record run { before = slice_set run.before slot.component dc };
    }
    else record { due = Wrong refusals.DcRange; run = run }

-- with `left` coefficients left
abbrev pub acs_due : Shape → Run → Slot → ℕ → Bool → Stage
acs_due shape run slot left loose =
    if left == 0 then block_over shape run else record { due = AcWord slot left loose; run = run }

-- after a symbol
abbrev pub symbol_over : Shape → Run → Slot → ℕ → Symbol → Stage
symbol_over shape run slot left (Value zeros size) =
    record { due = AcBits slot (left - (zeros + 1)) size; run = run }
symbol_over shape run slot left Sixteen = acs_due shape run slot (left - 16) true
symbol_over shape run slot left End = block_over shape run
symbol_over shape run slot left Past = record { due = Wrong refusals.RunPast; run = run }
symbol_over shape run slot left Loose = record { due = Wrong refusals.LooseZeros; run = run }
symbol_over shape run slot left Unknown = record { due = Wrong refusals.SymbolBad; run = run }

-- after the pad bits of an interval: the scan is over, a marker is due, or they differ
abbrev pub pads_over : Shape → Run → Option (Option Bool) → Stage
pads_over shape run None = record { due = Wrong refusals.MixedPad; run = run }
pads_over shape run (Some pad) = record {
  due = if run.count == shape.mcus then Over else Marker;
  run = record run { before = no_dcs; pads = run.pads ++ unwrap_or pad true ∷ [] };
}

-- an item: bits, or a marker
pub data Item : Type 0 where
  Coded : List Bool → Item
  Restart : Item

-- a word is at the cursor `at`, and the cursor `next` follows it
abbrev pub IsWord : TableFields → List ℕ → Cursor → List Bool → ℕ → Cursor → Type 0
IsWord table bytes at word value next =
    (word_of table value ≡ Some word) × (bits_at (length word) bytes at ≡ Ok (word, next))

-- from a cursor to another there is an item of what is due, and then `after` is due
abbrev pub Stands : Shape → List ℕ → Run → Due → Cursor → Item → Stage → Cursor → Type 0
Stands shape bytes run (DcWord slot) at (Coded word) after next =
    (size : ℕ) × IsWord slot.codes.dc bytes at word size next
    × (after ≡ record { due = size_over slot size; run = run })
Stands shape bytes run (DcBits slot size) at (Coded bits) after next =
    (length bits ≡ size) × (bits_at size bytes at ≡ Ok (bits, next))
    × (after ≡ dc_over run slot (last_dc run.before slot +ℤ extend bits))
Stands shape bytes run (AcWord slot left loose) at (Coded word) after next =
    (symbol : ℕ) × IsWord slot.codes.ac bytes at word symbol next
    × (after ≡ symbol_over shape run slot left (symbol_of left loose symbol))
Stands shape bytes run (AcBits slot left size) at (Coded bits) after next =
    (length bits ≡ size) × (bits_at size bytes at ≡ Ok (bits, next))
    × (after ≡ acs_due shape run slot left false)
Stands shape bytes run Pads at (Coded bits) after next =
    (bits ≡ at.left) × (next ≡ record at { left = [] })
    × (after ≡ pads_over shape run (pad_of (Some None) bits))
Stands shape bytes run Marker at Restart after next =
    (place : ℕ) × (restart_at bytes (interval_number shape (run.count - 1)) at.next ≡ Ok place)
    × (next ≡ starting place 0) × (after ≡ mcu_due shape run)
Stands shape bytes run due at item after next = ⊥

-- items are there one after the other, each of them due
abbrev pub Path : Shape → List ℕ → Stage → Cursor → List Item → Stage → Cursor → Type 0
Path shape bytes stage at [] last end = (stage ≡ last) × (at ≡ end)
Path shape bytes stage at (item ∷ items) last end =
    (after : Stage) × (next : Cursor) × Stands shape bytes stage.run stage.due at item after next
    × Path shape bytes after next items last end

-- the item that is due isn't there, or the one before can't be there
abbrev pub IsStuck : Shape → List ℕ → Run → Due → Cursor → ScanRefusal → Type 0
IsStuck shape bytes run (DcWord slot) at refusal =
    (fault : CodeFault) × IsFaultAt slot.codes.dc bytes at fault × (refusal ≡ code_refusal fault)
IsStuck shape bytes run (DcBits slot size) at refusal =
    (fault : BitFault) × (bits_at size bytes at ≡ Err fault) × (refusal ≡ bits_refusal fault)
IsStuck shape bytes run (AcWord slot left loose) at refusal =
    (fault : CodeFault) × IsFaultAt slot.codes.ac bytes at fault × (refusal ≡ code_refusal fault)
IsStuck shape bytes run (AcBits slot left size) at refusal =
    (fault : BitFault) × (bits_at size bytes at ≡ Err fault) × (refusal ≡ bits_refusal fault)
IsStuck shape bytes run Pads at refusal = ⊥
IsStuck shape bytes run Marker at refusal =
    restart_at bytes (interval_number shape (run.count - 1)) at.next ≡ Err refusal
IsStuck shape bytes run Over at refusal = ⊥
IsStuck shape bytes run (Wrong refusal_at) at refusal = refusal ≡ refusal_at at.last

-- from a place on the items of a scan stop with this refusal (own)
pub record Refuses (shape : Shape) (bytes : List ℕ) (place : ℕ)
    (refusal : ScanRefusal) : Type 0 where
  pub items : List Item
  pub last : Stage
  pub end : Cursor
  pub path : Path shape bytes (first_stage shape) (starting place 0) items last end
  pub stuck : IsStuck shape bytes last.run last.due end refusal

-- from a place on they continue until the scan is over; these are the pad bits of its intervals, 1 if one pads none,
-- and the place after it
pub record IsOverAt (shape : Shape) (bytes : List ℕ) (place : ℕ) (pads : List Bool)
    (after : ℕ) : Type 0 where
  pub items : List Item
  pub last : Stage
  pub end : Cursor
  pub path : Path shape bytes (first_stage shape) (starting place 0) items last end
  pub over : last.due ≡ Over
  pub told : last.run.pads ≡ pads
  pub place_after : end.next ≡ after
