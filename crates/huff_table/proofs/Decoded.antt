-- Taking bits until they are a code word, size by size.
use Rattle.std.proofs.Common.{◌≡◌, ℕ, zero, suc, ◌+◌, ◌*◌, ◌^◌, ◌<◌, ◌≤◌, Bool, if◌then◌else◌, List, [], ◌∷◌, ◌++◌, length, take, drop, Option, Some, None, Result, Ok, Err, refl, sym, ap, ap₂, ◌∙◌, subst, arith, length-append, add-one, get_or, drop-cons, sum}
use Rattle.std.proofs.lemmas.List.{drop_all, length-drop}
use Rattle.std.proofs.lemmas.List.Sums.{fold-append}
use Rattle.bit_list.specs.Bits.{number_of}
use Rattle.bit_list.specs.Units.{Cursor, bit_at, bits_at, and_then}
use Rattle.bit_list.specs.declared.fault.BitFault.{BitFault}
use Rattle.bit_list.proofs.Cursors.{in_parts, then_bits}
use Rattle.bit_list.proofs.LowBits.{number_below}
use Rattle.jpeg_marker.specs.HuffmanTables.{TableFields, IsTable}
use Rattle.huff_table.specs.CodeWords.{value_of}
use Rattle.huff_table.specs.Decoding.{with_bit, found_or, value_after, value_at}
use Rattle.huff_table.specs.Levels.{levels, value_among}
use Rattle.huff_table.specs.declared.fault.CodeFault.{CodeFault}
use Rattle.huff_table.specs.declared.fault.CodeFault.TheVariants.{Bits, NoWord}
use Rattle.huff_table.proofs.WordSizes.{sum_first}
use Rattle.huff_table.proofs.Fits.{HasRoom, room_of_table, room_of_size, room_next, small_power}
use Rattle.huff_table.proofs.Found.{value_by, found_now, found_later, found_in_table}

-- a bit as a number
abbrev pub number : Bool → ℕ
number bit = if bit then 1 else 0

-- one more bit after some
pub number_push : (prefix : List Bool) (bit : Bool) → number_of (prefix ++ bit ∷ []) ≡ 2 * number_of prefix + number bit
number_push prefix bit = fold-append (λ (n : ℕ) (b : Bool). 2 * n + (if b then 1 else 0)) 0 prefix (bit ∷ [])

pub length_more : (prefix : List Bool) (bit : Bool) → length (prefix ++ bit ∷ []) ≡ length prefix + 1
length_more prefix bit = length-append prefix (bit ∷ [])

abbrev Read : Type 0
Read = Result (List Bool × Cursor) BitFault

-- the next bit as the next bits
one_bit : (bytes : List ℕ) (at next : Cursor) (bit : Bool) → bit_at bytes at ≡ Ok (bit, next) → bits_at 1 bytes at ≡ Ok (bit ∷ [], next)
unfolding bits_at
one_bit bytes at next bit e = ap (λ (r : Result (Bool × Cursor) BitFault). and_then {A = Bool × Cursor} {B = List Bool × Cursor} r (λ first. Ok (first.0 ∷ [], first.1))) e

pub taken_more : (bytes : List ℕ) (from at next : Cursor) (prefix : List Bool) (bit : Bool) → bits_at (length prefix) bytes from ≡ Ok (prefix, at)
    → bit_at bytes at ≡ Ok (bit, next) → bits_at (length (prefix ++ bit ∷ [])) bytes from ≡ Ok (prefix ++ bit ∷ [], next)
taken_more bytes from at next prefix bit taken e =
    ap (λ (n : ℕ). bits_at n bytes from) (length_more prefix bit) ∙ in_parts (length prefix) 1 bytes from
    ∙ ap (λ (r : Read). and_then r (then_bits 1 bytes)) taken
    ∙ ap (λ (r : Read). and_then {A = List Bool × Cursor} {B = List Bool × Cursor} r (λ more. Ok (prefix ++ more.0, more.1))) (one_bit bytes at next bit e)

-- what comes of one more bit: its fault, a value, or the bits after it
abbrev Value : Type 0
Value = Result (ℕ × Cursor) CodeFault

pub after_fault : (table : TableFields) (more : ℕ) (bytes : List ℕ) (prefix : List Bool) (at : Cursor) (fault : BitFault) → bit_at bytes at ≡ Err fault
    → value_after table (suc more) bytes prefix at ≡ Err (Bits fault)
unfolding value_after
after_fault table more bytes prefix at fault e =
    ap (λ (r : Result (Bool × Cursor) BitFault). with_bit r (λ bit next. found_or (value_of table (prefix ++ bit ∷ [])) next (value_after table more bytes (prefix ++ bit ∷ []) next))) e

pub after_bit : (table : TableFields) (more : ℕ) (bytes : List ℕ) (prefix : List Bool) (at next : Cursor) (bit : Bool) (found : Option ℕ) → bit_at bytes at ≡ Ok (bit, next)
    → value_of table (prefix ++ bit ∷ []) ≡ found
    → value_after table (suc more) bytes prefix at ≡ found_or found next (value_after table more bytes (prefix ++ bit ∷ []) next)
unfolding value_after
after_bit table more bytes prefix at next bit found e is =
    ap (λ (r : Result (Bool × Cursor) BitFault). with_bit r (λ bit next. found_or (value_of table (prefix ++ bit ∷ [])) next (value_after table more bytes (prefix ++ bit ∷ []) next))) e
    ∙ ap (λ (v : Option ℕ). found_or v next (value_after table more bytes (prefix ++ bit ∷ []) next)) is

pub after_none : (table : TableFields) (bytes : List ℕ) (prefix : List Bool) (at : Cursor) → value_after table zero bytes prefix at ≡ Err (NoWord at.last)
unfolding value_after
after_none table bytes prefix at = refl

-- Some bits were taken that are no code word, and the words of their size and of smaller ones were passed: these counts
-- and values are left, and the first word of the next size.
pub record Reaches (table : TableFields) (bytes : List ℕ) (from : Cursor) (index code first : ℕ) (counts values : List ℕ) (to : Cursor) : Type 0 where
  pub prefix : List Bool
  pub size : length prefix ≡ index
  pub is_number : number_of prefix ≡ code
  pub taken : bits_at (length prefix) bytes from ≡ Ok (prefix, to)
  pub after : value_at table bytes from ≡ value_after table (length counts) bytes prefix to
  pub later : (bits : List Bool) → index < length bits → value_of table bits ≡ value_by (length bits) (number_of bits) (levels (index + 1) first counts values)
  pub room : HasRoom (index + 1) first counts

pub reaches_start : (table : TableFields) (bytes : List ℕ) (from : Cursor) → IsTable table → Reaches table bytes from 0 0 0 table.counts table.values from
unfolding bits_at
reaches_start table bytes from is = record {
  prefix = [];
  size = refl;
  is_number = refl;
  taken = refl;
  after = ap (λ (n : ℕ). value_after table n bytes [] from) (sym is.lengths);
  later = λ bits _. found_in_table table is bits;
  room = room_of_table table is;
}

-- a code word is small, and so are the first ones of their sizes
pub first_small : (table : TableFields) (bytes : List ℕ) (from to : Cursor) (index code first count : ℕ) (counts values : List ℕ) → Reaches table bytes from index code first (count ∷ counts) values to
    → first + count ≤ 65536
first_small table bytes from to index code first count counts values at =
    let power = small_power (index + 1) (omega (arith, at.room.sizes)) in
    omega (arith, power, room_of_size (index + 1) first count counts at.room)

pub code_small : (table : TableFields) (bytes : List ℕ) (from to : Cursor) (index code first count : ℕ) (counts values : List ℕ) → Reaches table bytes from index code first (count ∷ counts) values to
    → code < 65536
code_small table bytes from to index code first count counts values at =
    let power : 2 ^ length at.prefix ≤ 65536 = small_power (length at.prefix) (omega (arith, at.room.sizes, at.size)) in
    omega (arith, power, number_below at.prefix, at.is_number)

-- the value of the bits with one more
value_next : (table : TableFields) (bytes : List ℕ) (from to : Cursor) (index code first count : ℕ) (counts values : List ℕ) (bit : Bool)
    → (at : Reaches table bytes from index code first (count ∷ counts) values to)
    → value_of table (at.prefix ++ bit ∷ []) ≡ value_among (take count values) first (2 * code + number bit)
value_next table bytes from to index code first count counts values bit at =
    let more : length (at.prefix ++ bit ∷ []) ≡ index + 1 = length_more at.prefix bit ∙ ap (λ n. n + 1) at.size in
    let spelled : number_of (at.prefix ++ bit ∷ []) ≡ 2 * code + number bit = number_push at.prefix bit ∙ ap (λ n. 2 * n + number bit) at.is_number in
    at.later (at.prefix ++ bit ∷ []) (omega arith)
    ∙ ap₂ (λ s c. value_by s c (levels (index + 1) first (count ∷ counts) values)) more spelled
    ∙ found_now (index + 1) (2 * code + number bit) first count counts values

pub reaches_fault : (table : TableFields) (bytes : List ℕ) (from to : Cursor) (index code first count : ℕ) (counts values : List ℕ) (fault : BitFault)
    → Reaches table bytes from index code first (count ∷ counts) values to → bit_at bytes to ≡ Err fault → value_at table bytes from ≡ Err (Bits fault)
reaches_fault table bytes from to index code first count counts values fault at e = at.after ∙ after_fault table (length counts) bytes at.prefix to fault e

pub reaches_found : (table : TableFields) (bytes : List ℕ) (from to next : Cursor) (index code first count : ℕ) (counts values : List ℕ) (bit : Bool) (value : ℕ)
    → Reaches table bytes from index code first (count ∷ counts) values to → bit_at bytes to ≡ Ok (bit, next)
    → value_among (take count values) first (2 * code + number bit) ≡ Some value → value_at table bytes from ≡ Ok (value, next)
reaches_found table bytes from to next index code first count counts values bit value at e found =
    at.after ∙ after_bit table (length counts) bytes at.prefix to next bit (Some value) e (value_next table bytes from to index code first count counts values bit at ∙ found)

pub reaches_more : (table : TableFields) (bytes : List ℕ) (from to next : Cursor) (index code first count : ℕ) (counts values : List ℕ) (bit : Bool)
    → Reaches table bytes from index code first (count ∷ counts) values to → bit_at bytes to ≡ Ok (bit, next)
    → value_among (take count values) first (2 * code + number bit) ≡ None
    → Reaches table bytes from (index + 1) (2 * code + number bit) (2 * (first + count)) counts (drop count values) next
reaches_more table bytes from to next index code first count counts values bit at e none = record {
  prefix = at.prefix ++ bit ∷ [];
  size = length_more at.prefix bit ∙ ap (λ n. n + 1) at.size;
  is_number = number_push at.prefix bit ∙ ap (λ n. 2 * n + number bit) at.is_number;
  taken = taken_more bytes from to next at.prefix bit at.taken e;
  after = at.after ∙ after_bit table (length counts) bytes at.prefix to next bit None e (value_next table bytes from to index code first count counts values bit at ∙ none);
  later = λ bits more. at.later bits (omega arith) ∙ found_later (length bits) (index + 1) (number_of bits) first count counts values more;
  room = room_next (index + 1) first count counts at.room;
}

pub reaches_end : (table : TableFields) (bytes : List ℕ) (from to : Cursor) (index code first : ℕ) (values : List ℕ) → Reaches table bytes from index code first [] values to
    → value_at table bytes from ≡ Err (NoWord to.last)
reaches_end table bytes from to index code first values at = at.after ∙ after_none table bytes at.prefix to

-- the counts from a place on
pub drop_next : (xs : List ℕ) (i : ℕ) → i < length xs → drop i xs ≡ get_or xs i 0 ∷ drop (i + 1) xs
drop_next xs i h = drop-cons xs i 0 h ∙ ap (λ n. get_or xs i 0 ∷ drop n xs) (sym (add-one i))

pub all_dropped : (xs : List ℕ) (i : ℕ) → length xs ≤ i → drop i xs ≡ []
all_dropped xs i h = drop_all i xs h

-- a turn over the counts: the one at a place, its values and those after them
pub record Turn (index count : ℕ) (counts values these longer : List ℕ) : Type 0 where
  pub within : index < length counts
  pub is_count : count ≡ get_or counts index 0
  pub prefix : these ≡ take count values
  pub back : longer ≡ drop count values

pub counts_left : (index count : ℕ) (counts values these longer : List ℕ) → Turn index count counts values these longer → drop index counts ≡ count ∷ drop (index + 1) counts
counts_left index count counts values these longer turn = drop_next counts index turn.within ∙ ap (λ n. n ∷ drop (index + 1) counts) (sym turn.is_count)

pub whole_left : (index count : ℕ) (counts values these longer : List ℕ) → Turn index count counts values these longer → length values ≡ sum (drop index counts) → length longer ≡ sum (drop (index + 1) counts)
whole_left index count counts values these longer turn whole =
    let parts = ap sum (counts_left index count counts values these longer turn) ∙ sum_first count (drop (index + 1) counts) in
    ap length turn.back ∙ length-drop count values ∙ omega arith

-- what a turn comes to
turn_reaches : {table : TableFields} {bytes : List ℕ} {from to : Cursor} {index code first count : ℕ} {counts values these longer : List ℕ}
    → Turn index count counts values these longer → Reaches table bytes from index code first (drop index counts) values to
    → Reaches table bytes from index code first (count ∷ drop (index + 1) counts) values to
turn_reaches {table} {bytes} {from} {to} {index} {code} {first} {count} {counts} {values} {these} {longer} turn at =
    subst (λ (l : List ℕ). Reaches table bytes from index code first l values to) (counts_left index count counts values these longer turn) at

pub turn_small : {table : TableFields} {bytes : List ℕ} {from to : Cursor} {index code first count : ℕ} {counts values these longer : List ℕ}
    → Turn index count counts values these longer → Reaches table bytes from index code first (drop index counts) values to → (code < 65536) × (first + count ≤ 65536)
turn_small {table} {bytes} {from} {to} {index} {code} {first} {count} {counts} {values} {these} {longer} turn at =
    let now = turn_reaches turn at in
    (code_small table bytes from to index code first count (drop (index + 1) counts) values now, first_small table bytes from to index code first count (drop (index + 1) counts) values now)

pub turn_fault : {table : TableFields} {bytes : List ℕ} {from to : Cursor} {index code first count : ℕ} {counts values these longer : List ℕ} (fault : BitFault)
    → Turn index count counts values these longer → Reaches table bytes from index code first (drop index counts) values to
    → bit_at bytes to ≡ Err fault → value_at table bytes from ≡ Err (Bits fault)
turn_fault {table} {bytes} {from} {to} {index} {code} {first} {count} {counts} {values} {these} {longer} fault turn at e =
    reaches_fault table bytes from to index code first count (drop (index + 1) counts) values fault (turn_reaches turn at) e

pub turn_found : {table : TableFields} {bytes : List ℕ} {from to : Cursor} {index code first count : ℕ} {counts values these longer : List ℕ} (next : Cursor) (bit : Bool) (value : ℕ)
    → Turn index count counts values these longer → Reaches table bytes from index code first (drop index counts) values to
    → bit_at bytes to ≡ Ok (bit, next) → value_among these first (2 * code + number bit) ≡ Some value → value_at table bytes from ≡ Ok (value, next)
turn_found {table} {bytes} {from} {to} {index} {code} {first} {count} {counts} {values} {these} {longer} next bit value turn at e found =
    reaches_found table bytes from to next index code first count (drop (index + 1) counts) values bit value (turn_reaches turn at) e
    (ap (λ vs. value_among vs first (2 * code + number bit)) (sym turn.prefix) ∙ found)

pub turn_more : {table : TableFields} {bytes : List ℕ} {from to : Cursor} {index code first count : ℕ} {counts values these longer : List ℕ} (next : Cursor) (bit : Bool)
    → Turn index count counts values these longer → Reaches table bytes from index code first (drop index counts) values to
    → bit_at bytes to ≡ Ok (bit, next) → value_among these first (2 * code + number bit) ≡ None
    → Reaches table bytes from (index + 1) (2 * code + number bit) (2 * (first + count)) (drop (index + 1) counts) longer next
turn_more {table} {bytes} {from} {to} {index} {code} {first} {count} {counts} {values} {these} {longer} next bit turn at e none =
    subst (λ (vs : List ℕ). Reaches table bytes from (index + 1) (2 * code + number bit) (2 * (first + count)) (drop (index + 1) counts) vs next) (sym turn.back)
    (reaches_more table bytes from to next index code first count (drop (index + 1) counts) values bit (turn_reaches turn at) e
    (ap (λ vs. value_among vs first (2 * code + number bit)) (sym turn.prefix) ∙ none))

pub turns_end : {table : TableFields} {bytes : List ℕ} {from to : Cursor} {index code first : ℕ} {values : List ℕ} (counts : List ℕ) → length counts ≤ index
    → Reaches table bytes from index code first (drop index counts) values to → value_at table bytes from ≡ Err (NoWord to.last)
turns_end {table} {bytes} {from} {to} {index} {code} {first} {values} counts past at =
    reaches_end table bytes from to index code first values (subst (λ (l : List ℕ). Reaches table bytes from index code first l values to) (all_dropped counts index past) at)
