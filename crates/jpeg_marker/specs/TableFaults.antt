-- Statement: what is checked of a segment of tables (ITU-T T.81, B.2.4.2).
use Rattle.std.specs.Prelude.{ℕ, Bool, zero, suc, ◌+◌, ◌/◌, ◌%◌, ◌^◌, List, [], ◌∷◌, length, take, sum, Option, Some, None, nat_lt, nat_le, ◌&&◌, ◌||◌, if◌then◌else◌}
use Rattle.std.specs.Option.{option_or}
use Rattle.jpeg_marker.specs.declared.refusal.HeaderRefusal.{HeaderRefusal}
use Rattle.jpeg_marker.specs.declared.refusal.HeaderRefusal.TheVariants.{LengthBad, TableBad}
use Rattle.jpeg_marker.specs.HuffmanTables.{TableFields, fields_at, distinct, code_space}

-- the values of a table may stand for its code words: none twice, and the words fit into 16 bits (Annex C)
abbrev pub is_table : TableFields → Bool
is_table t = distinct t.values && nat_le (code_space t.counts) (2 ^ 16)

-- The first check that a table fails, with its first byte at a place, and the segment's length at
-- another (B.2.4.2): sixteen counts, a class of 0 or 1, a number of at most 3, as many values as the
-- counts add up to, and then what holds of each table.
abbrev pub table_fault : ℕ → ℕ → ℕ → List ℕ → Option HeaderRefusal
table_fault at place byte bytes =
    if nat_lt (length bytes) 16 then Some (LengthBad at)
    else if nat_lt 1 (byte / 16) || nat_lt 3 (byte % 16) then Some (TableBad place)
    else if nat_lt (length bytes) (16 + sum (take 16 bytes)) then Some (LengthBad at)
    else if is_table (fields_at bytes) then None
    else Some (TableBad place)

-- the first check that fails in the tables after the first few bytes, of which the first has a place
abbrev pub tables_fault : ℕ → ℕ → ℕ → List ℕ → Option HeaderRefusal
tables_fault at place skipped [] = None
tables_fault at place (suc skipped) (byte ∷ bytes) = tables_fault at (place + 1) skipped bytes
tables_fault at place zero (byte ∷ bytes) =
    option_or (table_fault at place byte bytes)
    (tables_fault at (place + 1) (16 + sum (take 16 bytes)) bytes)
