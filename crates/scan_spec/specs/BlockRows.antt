-- Rows: worked blocks (ITU-T T.81, Tables K.3 and K.5; own).
use Rattle.std.specs.Prelude.{◌≡◌, true, false, List, [], ◌∷◌, ◌++◌, ℤ, pos, negsuc, replicate, Ok, Err}
use Rattle.jpeg_marker.specs.HuffmanTables.{TableFields}
use Rattle.huff_table.specs.StandardTable.{table_k3}
use Rattle.huff_table.specs.declared.plan_codes.ComponentCodes.{ComponentCodes}
use Rattle.scan_spec.specs.BlockBits.{block_text}
use Rattle.scan_spec.specs.declared.stop.WriteStop.TheVariants.{NoCode, DiffRange}

-- the words of Table K.5 of up to five bits
abbrev pub short_k5 : TableFields
short_k5 = record {
  counts = 0 ∷ 2 ∷ 1 ∷ 3 ∷ 3 ∷ replicate 11 0;
  values = 0x01 ∷ 0x02 ∷ 0x03 ∷ 0x00 ∷ 0x04 ∷ 0x11 ∷ 0x05 ∷ 0x12 ∷ 0x21 ∷ [];
}

-- `0` for F0, `10` for 01, `110` for E1 and `111` for 00
abbrev pub runs_table : TableFields
runs_table = record { counts = 1 ∷ 1 ∷ 2 ∷ replicate 13 0; values = 0xf0 ∷ 0x01 ∷ 0xe1 ∷ 0x00 ∷ [] }

-- `0` for 00
abbrev pub level_table : TableFields
level_table = record { counts = 1 ∷ replicate 15 0; values = 0 ∷ [] }

-- tables K.3 and, in part, K.5
abbrev pub standard : ComponentCodes
standard = record { dc = table_k3; ac = short_k5 }

-- a component whose blocks are zero
abbrev pub level : ComponentCodes
level = record { dc = level_table; ac = level_table }

-- one with long runs of zeros
abbrev pub runs : ComponentCodes
runs = record { dc = level_table; ac = runs_table }

-- a DC of 15 and five AC coefficients, by rows
abbrev pub six_values : List ℤ
six_values =
    pos 15 ∷ pos 0 ∷ negsuc 0 ∷ replicate 5 (pos 0) ++ negsuc 1 ∷ negsuc 0 ∷ replicate 6 (pos 0)
    ++ negsuc 0 ∷ negsuc 0 ∷ replicate 46 (pos 0)

-- the bits of each, or why there are none
abbrev pub rows : Type 0
rows =
    (block_text standard (pos 12) six_values
    ≡ Ok (false ∷ true ∷ true ∷ true ∷ true ∷ true ∷ true ∷ false ∷ true ∷ true ∷ false ∷ true
    ∷ false ∷ false ∷ false ∷ false ∷ false ∷ false ∷ false ∷ false ∷ false ∷ true ∷ true ∷ true
    ∷ false ∷ false ∷ false ∷ true ∷ false ∷ true ∷ false ∷ []))
    × (block_text level (pos 0) (replicate 64 (pos 0)) ≡ Ok (false ∷ false ∷ []))
    × (block_text level (pos 0) (pos 1 ∷ replicate 63 (pos 0)) ≡ Err NoCode)
    × (block_text level (pos 2048) (replicate 64 (pos 0)) ≡ Err DiffRange)
    × (block_text level (pos 0) (pos 0 ∷ replicate 62 (pos 0) ++ pos 1 ∷ []) ≡ Err NoCode)
    × (block_text runs (pos 0) (replicate 42 (pos 0) ++ pos 1 ∷ replicate 21 (pos 0))
    ≡ Ok (false ∷ false ∷ false ∷ true ∷ false ∷ true ∷ true ∷ true ∷ true ∷ []))
    × (block_text runs (pos 0) (replicate 63 (pos 0) ++ negsuc 0 ∷ [])
    ≡ Ok (false ∷ false ∷ false ∷ false ∷ true ∷ true ∷ false ∷ false ∷ []))
