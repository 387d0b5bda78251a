-- Steps: the blocks of an MCU, as a reader keeps and reads them (own).
use Rattle.std.specs.Prelude.{List, ◌++◌, ℤ, Result, Ok, Err}
use Rattle.bit_list.specs.Units.{Cursor}
use Rattle.scan_spec.specs.ScanReading.{and_then, BlocksRead}
use Rattle.scan_spec.specs.declared.refusal.ScanRefusal.{ScanRefusal}

-- blocks in zigzag order, the DCs after them and the cursor, or a refusal
abbrev pub blocks_read : {A : Type 0} → Result A ScanRefusal → List (List ℤ) → List ℤ → Cursor
    → Result BlocksRead ScanRefusal
blocks_read (Ok done) blocks before cursor =
    Ok (record { blocks = blocks; before = before; cursor = cursor })
blocks_read (Err refusal) blocks before cursor = Err refusal

-- a reading with other blocks before its own
abbrev pub after_prefix : List (List ℤ) → Result BlocksRead ScanRefusal
    → Result BlocksRead ScanRefusal
after_prefix prefix rest =
    and_then rest (λ more. Ok (record more { blocks = prefix ++ more.blocks }))
