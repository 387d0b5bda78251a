-- The texts of words and values, and how a list of bits grows.
use Rattle.std.proofs.Common.{◌≡◌, ◌≢◌, ℕ, zero, suc, ◌+◌, ◌-◌, ◌/◌, ◌^◌, ◌<◌, ◌≤◌, Bool, true, false, List, [], ◌∷◌, ◌++◌, length, drop, get_or, ℤ, pos, ◌-ℤ◌, unsigned_abs, Some, None, Ok, Err, ltb, if◌then◌else◌, nat_eq, bit_and, refl, sym, ap, ap₂, ◌∙◌, arith, append_assoc, drop-cons, add-one}
use Rattle.std.specs.Prelude.{slice_get}
use Rattle.std.proofs.lemmas.List.{drop_all, get_or-map, get_or-drop}
use Rattle.std.proofs.lemmas.Option.{get_or_from_slice_get}
use Rattle.coef_block.specs.Zigzag.{zigzag}
use Rattle.coef_block.specs.Block.{IsCoefficient}
use Rattle.std.proofs.lemmas.Bool.Decides.{nat_tests}
use Rattle.std.proofs.lemmas.Nat.Bits.{shr_and_one}
use Rattle.bit_list.specs.Bits.{low_bits}
use Rattle.jpeg_marker.specs.HuffmanTables.{TableFields}
use Rattle.huff_table.specs.CodeWords.{word_of}
use Rattle.coef_block.specs.Categories.{category as size}
use Rattle.scan_spec.specs.ValueBits.{mag}
use Rattle.scan_spec.specs.BlockBits.{then_text, block_text, coded_word, word_text, value_text, zeros_text, coefficient_text, ac_text, dc_text, coefficient_at, ac_values}
use Rattle.huff_table.specs.declared.plan_codes.ComponentCodes.{ComponentCodes}
use Rattle.scan_spec.specs.declared.stop.WriteStop.TheVariants.{NoCode, DiffRange}

pub word_none : (table : TableFields) (symbol : ℕ) → word_of table symbol ≡ None → word_text table symbol ≡ Err NoCode
unfolding word_text
word_none table symbol e = ap coded_word e

pub word_some : (table : TableFields) (symbol : ℕ) (word : List Bool) → word_of table symbol ≡ Some word → word_text table symbol ≡ Ok word
unfolding word_text
word_some table symbol word e = ap coded_word e

-- a value's text is its symbol's and then its bits
pub value_parts : (table : TableFields) (symbol : ℕ) (value : ℤ) → value_text table symbol value ≡ then_text (word_text table symbol) (Ok (mag value))
unfolding value_text
value_parts table symbol value = refl

-- one more time sixteen zeros
pub zeros_none : (table : TableFields) → zeros_text table 0 ≡ Ok []
unfolding zeros_text
zeros_none table = refl

pub zeros_more : (table : TableFields) (left : ℕ) → 0 < left → zeros_text table left ≡ then_text (word_text table 240) (zeros_text table (left - 1))
unfolding zeros_text
zeros_more table zero h = absurd (omega arith)
zeros_more table (suc left) h = let e : left ≡ suc left - 1 = omega arith in ap (λ n. then_text (word_text table 240) (zeros_text table n)) e

-- the lowest bits, the highest of them first
low_bits_left : (left number : ℕ) → 0 < left → low_bits left number ≡ nat_eq (bit_and (number / 2 ^ (left - 1)) 1) 1 ∷ low_bits (left - 1) number
low_bits_left zero number h = absurd (omega arith)
low_bits_left (suc k) number h =
    let e : suc k - 1 ≡ k = omega arith in
    rw e (ap (λ b. nat_eq b 1 ∷ low_bits k number) (sym (shr_and_one number k)))

pub one_bit_more : (now new all : List Bool) (left number : ℕ) → 0 < left → new ≡ now ++ nat_eq (bit_and (number / 2 ^ (left - 1)) 1) 1 ∷ [] → now ++ low_bits left number ≡ all
    → new ++ low_bits (left - 1) number ≡ all
one_bit_more now new all left number some is whole =
    ap (λ l. l ++ low_bits (left - 1) number) is ∙ append_assoc now (nat_eq (bit_and (number / 2 ^ (left - 1)) 1) 1 ∷ []) (low_bits (left - 1) number)
    ∙ ap (λ l. now ++ l) (sym (low_bits_left left number some)) ∙ whole

-- coefficients one after the other
pub ac_zero : (table : TableFields) (zeros : ℕ) (value : ℤ) (values : List ℤ) → unsigned_abs value ≡ 0 → ac_text table zeros (value ∷ values) ≡ ac_text table (zeros + 1) values
unfolding ac_text
ac_zero table zeros value values none = ap (λ n. if nat_eq n 0 then ac_text table (zeros + 1) values else then_text (coefficient_text table zeros value) (ac_text table 0 values)) none

not_zero : (n : ℕ) → n ≢ 0 → nat_eq n 0 ≡ false
not_zero n some = grind (arith, nat_tests)

pub ac_value : (table : TableFields) (zeros : ℕ) (value : ℤ) (values : List ℤ) → unsigned_abs value ≢ 0
    → ac_text table zeros (value ∷ values) ≡ then_text (coefficient_text table zeros value) (ac_text table 0 values)
unfolding ac_text
ac_value table zeros value values some =
    ap (λ test. if test then ac_text table (zeros + 1) values else then_text (coefficient_text table zeros value) (ac_text table 0 values)) (not_zero (unsigned_abs value) some)

pub ac_full : (table : TableFields) (zeros : ℕ) → zeros ≡ 0 → ac_text table zeros [] ≡ Ok []
unfolding ac_text
ac_full table zeros none = ap (λ n. if nat_eq n 0 then Ok [] else word_text table 0) none

pub ac_end : (table : TableFields) (zeros : ℕ) → zeros ≢ 0 → ac_text table zeros [] ≡ word_text table 0
unfolding ac_text
ac_end table zeros some = ap (λ test. if test then Ok [] else word_text table 0) (not_zero zeros some)

-- a difference within its range, or past it
past : (n : ℕ) → 2047 < n → ltb 2047 n ≡ true
past n h = grind (arith, nat_tests)

within : (n : ℕ) → n ≤ 2047 → ltb 2047 n ≡ false
within n h = grind (arith, nat_tests)

pub dc_far : (table : TableFields) (before dc : ℤ) → 2047 < unsigned_abs (dc -ℤ before) → dc_text table before dc ≡ Err DiffRange
unfolding dc_text
dc_far table before dc h =
    ap (λ test. if test then Err DiffRange else value_text table (size (unsigned_abs (dc -ℤ before))) (dc -ℤ before)) (past _ h)

pub dc_near : (table : TableFields) (before dc : ℤ) → unsigned_abs (dc -ℤ before) ≤ 2047 → dc_text table before dc ≡ value_text table (size (unsigned_abs (dc -ℤ before))) (dc -ℤ before)
unfolding dc_text
dc_near table before dc h =
    ap (λ test. if test then Err DiffRange else value_text table (size (unsigned_abs (dc -ℤ before))) (dc -ℤ before)) (within _ h)

pub value_is : (block : List ℤ) (place : ℕ) (value : ℤ) → slice_get block place ≡ Some value → coefficient_at block place ≡ value
value_is block place value e = get_or_from_slice_get block place value (pos 0) e

-- the next AC coefficient
pub length-ac_values : (block : List ℤ) → length (ac_values block) ≡ 63
unfolding ac_values
length-ac_values block = refl

ac_at : (block : List ℤ) (i : ℕ) → i < 63 → get_or (ac_values block) i (pos 0) ≡ coefficient_at block (get_or zigzag (i + 1) 0)
unfolding ac_values
ac_at block i below =
    let n : 1 + i ≡ i + 1 = omega arith in
    get_or-map (coefficient_at block) (drop 1 zigzag) i 0 (pos 0) below ∙ ap (coefficient_at block) (get_or-drop 1 zigzag i 0 ∙ ap (λ k. get_or zigzag k 0) n)

pub ac_next : (block : List ℤ) (index place : ℕ) (value : ℤ) → 1 ≤ index → index < 64 → place ≡ get_or zigzag index 0 → slice_get block place ≡ Some value
    → drop (index - 1) (ac_values block) ≡ value ∷ drop index (ac_values block)
ac_next block index place value some below is stands =
    let i : index ≡ index - 1 + 1 = omega arith in
    let size = length-ac_values block in
    let within : index - 1 < length (ac_values block) = omega arith in
    drop-cons (ac_values block) (index - 1) (pos 0) within
    ∙ ap₂ (λ (v : ℤ) (n : ℕ). v ∷ drop n (ac_values block))
    (ac_at block (index - 1) (omega arith) ∙ ap (λ n. coefficient_at block (get_or zigzag n 0)) (sym i) ∙ ap (coefficient_at block) (sym is) ∙ value_is block place value stands)
    (sym (add-one (index - 1)) ∙ sym i)

pub no_more : (block : List ℤ) (index : ℕ) → 64 ≤ index → drop (index - 1) (ac_values block) ≡ []
no_more block index h = drop_all (index - 1) (ac_values block) (omega (arith, length-ac_values block))

-- a block's text is its DC's and then its AC coefficients'
pub block_is : (codes : ComponentCodes) (before : ℤ) (block : List ℤ) → block_text codes before block ≡ then_text (dc_text codes.dc before (coefficient_at block 0)) (ac_text codes.ac 0 (ac_values block))
unfolding block_text
block_is codes before block = refl

-- a coefficient of a block is small
pub small_value : (place : ℕ) (value : ℤ) → 0 < place → IsCoefficient place value → unsigned_abs value ≤ 32767
small_value place value later is = grind (arith, nat_tests)

pub dc_small : (value : ℤ) → IsCoefficient 0 value → unsigned_abs value ≤ 32767
dc_small value is = is
