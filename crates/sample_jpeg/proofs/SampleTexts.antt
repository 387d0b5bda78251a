-- The bits of a sample's blocks: every symbol has a code word, and they are few.
use Rattle.std.proofs.Common.{◌≡◌, ℕ, zero, suc, ◌+◌, ◌*◌, ◌/◌, ◌%◌, ◌<◌, ◌≤◌, Bool, List, [], ◌∷◌, ◌++◌, length, ℤ, ◌-ℤ◌, unsigned_abs, Ok, refl, ap, ◌∙◌, arith, inl, inr, length-append}
use Rattle.std.specs.List.{AllByRecursion}
use Rattle.std.proofs.lemmas.Bool.{cases_eq}
use Rattle.std.proofs.lemmas.Int.{ints}
use Rattle.std.proofs.Math.Nat.{mod-lt}
use Rattle.coef_block.specs.Categories.{category as size}
use Rattle.huff_table.specs.declared.plan_codes.ComponentCodes.{ComponentCodes}
use Rattle.scan_spec.specs.ValueBits.{mag}
use Rattle.scan_spec.specs.BlockBits.{Text, prefixed, then_text, word_text, value_text, zeros_text, coefficient_text, ac_text, dc_text, coefficient_at, ac_values, block_text}
use Rattle.scan_spec.proofs.ValueLemmas.{length-mag, small_size, size_some}
use Rattle.scan_spec.proofs.Words.{ac_zero, ac_value, ac_full, ac_end, dc_near, block_is, length-ac_values}
use Rattle.sample_jpeg.specs.SampleHeader.{ac_table, dc_table}
use Rattle.sample_jpeg.proofs.SampleWords.{ac_word, dc_word, end_word, zeros_word}

-- at most so many bits
abbrev pub IsText : ℕ → Text → Type 0
IsText most text = (bits : List Bool) × (text ≡ Ok bits) × (length bits ≤ most)

pub fewer : (a b : ℕ) (text : Text) → a ≤ b → IsText a text → IsText b text
fewer a b text h t = (t.0, t.1, omega (arith, h, t.2))

pub as_text : (most : ℕ) (text other : Text) → text ≡ other → IsText most other → IsText most text
as_text most text other e t = (t.0, e ∙ t.1, t.2)

-- a text and then another
pub both : (a b : ℕ) (text rest : Text) → IsText a text → IsText b rest → IsText (a + b) (then_text text rest)
both a b text rest s t = (
  s.0 ++ t.0,
  ap (λ x. then_text x rest) s.1 ∙ ap (prefixed s.0) t.1,
  omega (arith, s.2, t.2, length-append s.0 t.0),
)

-- F0 some times
zeros_are : (q : ℕ) → IsText (8 * q) (zeros_text ac_table q)
unfolding zeros_text
zeros_are zero = ([], refl, omega arith)
zeros_are (suc q) =
    let first : IsText 8 (word_text ac_table 0xf0) = (zeros_word.0, zeros_word.1, omega (arith, zeros_word.2)) in
    fewer (8 + 8 * q) (8 * suc q) _ (omega arith) (both 8 (8 * q) (word_text ac_table 0xf0) (zeros_text ac_table q) first (zeros_are q))

-- a word and its value's bits
with_value : (a k : ℕ) (word : Text) (value : ℤ) → size (unsigned_abs value) ≤ k → IsText a word → IsText (a + k) (then_text word (Ok (mag value)))
with_value a k word value small is = both a k word (Ok (mag value)) is (mag value, refl, omega (arith, small, length-mag value))

value_is : (run : ℕ) (value : ℤ) → run < 16 → 0 < unsigned_abs value → unsigned_abs value ≤ 15 → IsText 12 (value_text ac_table (16 * run + size (unsigned_abs value)) value)
unfolding value_text
value_is run value below some small =
    let few = small_size 4 (unsigned_abs value) (omega (arith, small)) in
    let one = size_some (unsigned_abs value) some in
    let word = ac_word run (size (unsigned_abs value)) below (omega (arith, one.1)) (omega (arith, few)) in
    with_value 8 4 (word_text ac_table (16 * run + size (unsigned_abs value))) value few (word.0, word.1, omega (arith, word.2))

-- AC coefficients, each within 15 of 0, and the zeros before them
abbrev pub AreSmall : List ℤ → Type 0
AreSmall values = AllByRecursion (λ value. unsigned_abs value ≤ 15) values

pub acs_are : (values : List ℤ) (zeros : ℕ) → AreSmall values → IsText (12 * (zeros + length values) + 8) (ac_text ac_table zeros values)
acs_are [] zero all = ([], ac_full ac_table 0 refl, omega arith)
acs_are [] (suc zeros) all =
    (end_word.0, ac_end ac_table (suc zeros) (λ z. omega (arith, z)) ∙ end_word.1, omega (arith, end_word.2))
acs_are (value ∷ values) zeros all =
    elim (cases_eq (unsigned_abs value) 0) [
      | inl none ↦
          as_text _ _ _ (ac_zero ac_table zeros value values none)
          (fewer (12 * (zeros + 1 + length values) + 8) (12 * (zeros + suc (length values)) + 8) _ (omega arith) (acs_are values (zeros + 1) all.1))
      | inr some ↦
          let q = zeros / 16 in
          let run : zeros % 16 < 16 = mod-lt zeros (omega arith) in
          let first = both (8 * q) 12 (zeros_text ac_table q) _ (zeros_are q) (value_is (zeros % 16) value run (omega (arith, some)) all.0) in
          let all_of = both (8 * q + 12) (12 * (0 + length values) + 8) (coefficient_text ac_table zeros value) (ac_text ac_table 0 values) first (acs_are values 0 all.1) in
          as_text _ _ _ (ac_value ac_table zeros value values some)
          (fewer (8 * q + 12 + (12 * (0 + length values) + 8)) (12 * (zeros + suc (length values)) + 8) _ (omega arith) all_of)
    ]

-- a DC near the one before
dc_is : (before dc : ℤ) → unsigned_abs (dc -ℤ before) ≤ 2000 → IsText 15 (dc_text dc_table before dc)
unfolding value_text
dc_is before dc near =
    let difference = dc -ℤ before in
    let few = small_size 11 (unsigned_abs difference) (omega (arith, near)) in
    let word = dc_word (size (unsigned_abs difference)) (omega (arith, few)) in
    as_text 15 _ _ (dc_near dc_table before dc (omega (arith, near)))
    (with_value 4 11 (word_text dc_table (size (unsigned_abs difference))) difference few (word.0, word.1, omega (arith, word.2)))

-- the code words of a sample's components
abbrev pub sample_codes : ComponentCodes
sample_codes = record { dc = dc_table; ac = ac_table }

difference_is : (a b : ℤ) → unsigned_abs a ≤ 1000 → unsigned_abs b ≤ 1000 → unsigned_abs (a -ℤ b) ≤ 2000
difference_is a b p q = grind (arith, ints)

-- a block of which the DC is within 1000 of 0, as is the DC before it, and each other coefficient within 15
pub block_of_few : (before : ℤ) (block : List ℤ) → unsigned_abs before ≤ 1000 → unsigned_abs (coefficient_at block 0) ≤ 1000 → AreSmall (ac_values block)
    → IsText 779 (block_text sample_codes before block)
block_of_few before block near dc acs =
    let a = dc_is before (coefficient_at block 0) (difference_is (coefficient_at block 0) before dc near) in
    let b = acs_are (ac_values block) 0 acs in
    as_text 779 _ _ (block_is sample_codes before block)
    (fewer (15 + (12 * (0 + length (ac_values block)) + 8)) 779 _ (omega (arith, length-ac_values block)) (both 15 _ _ _ a b))
