-- Statement: the tables that segments define (ITU-T T.81, B.2.4.2).
use Rattle.std.specs.Prelude.{ℕ, zero, suc, ◌+◌, ◌*◌, ◌/◌, ◌%◌, ◌^◌, ◌≡◌, ◌≤◌, Bool, true, not, List, [], ◌∷◌, length, take, drop, sum, filter, map, flat_map, replicate, ◌==◌, ◌&&◌, Option, if◌then◌else◌, nat_eq}
use Rattle.std.specs.List.{list_any, IsDistinct}
use Rattle.jpeg_marker.specs.MarkerSegments.{Segment, last_of}

-- how many code words there are of each length from 1 to 16, and the values that they stand for, by rising length
pub record TableFields : Type 0 where
  pub counts : List ℕ
  pub values : List ℕ

-- a table without a code word (own)
abbrev pub no_table : TableFields
no_table = record { counts = replicate 16 0; values = [] }

-- a table with its class, 0 for DC and 1 for AC, and its number
pub record Table : Type 0 where
  pub class : ℕ
  pub number : ℕ
  pub fields : TableFields

-- what follows the byte with class and number
abbrev pub fields_at : List ℕ → TableFields
fields_at bytes =
    record { counts = take 16 bytes; values = take (sum (take 16 bytes)) (drop 16 bytes) }

-- the tables in the bytes after the first few, one after the other
abbrev pub tables_after : ℕ → List ℕ → List Table
tables_after skipped [] = []
tables_after (suc skipped) (byte ∷ bytes) = tables_after skipped bytes
tables_after zero (byte ∷ bytes) =
    record { class = byte / 16; number = byte % 16; fields = fields_at bytes }
    ∷ tables_after (16 + sum (take 16 bytes)) bytes

-- the tables that a segment defines, if it is one of tables
abbrev pub tables_in : Segment → List Table
tables_in s = if s.code == 0xc4 then tables_after 0 s.body else []

-- those that several segments define, in their order
abbrev pub tables_of : List Segment → List Table
tables_of segments = flat_map tables_in segments

-- whether a table has this class and number
abbrev pub is_of : ℕ → ℕ → Table → Bool
is_of class number t = t.class == class && t.number == number

-- the last table of a class and number, after one that was there before, if any
abbrev pub latest : Option TableFields → ℕ → ℕ → List Table → Option TableFields
latest before class number tables =
    last_of before (map (λ t. t.fields) (filter (is_of class number) tables))

-- no value occurs twice
abbrev pub distinct : List ℕ → Bool
distinct [] = true
distinct (x ∷ xs) = not (list_any (nat_eq x) xs) && distinct xs

-- how many words of 16 bits begin with a code word, where each count is of a length one larger than the
-- one before it, up to 16 (Annex C)
abbrev pub code_space : List ℕ → ℕ
code_space [] = 0
code_space (count ∷ counts) = count * 2 ^ length counts + code_space counts

-- what a table keeps: as many values as code words, none twice, and code words that fit
pub record IsTable (t : TableFields) : Type 0 where
  pub lengths : length t.counts ≡ 16
  pub whole : length t.values ≡ sum t.counts
  pub distinct_values : IsDistinct nat_eq t.values
  pub space : code_space t.counts ≤ 2 ^ 16
