-- A value's code word, looked up; a word's value; and no word begins another one.
use Rattle.std.proofs.Common.{◌≡◌, ◌≢◌, ◌⊎◌, ℕ, zero, suc, ◌+◌, ◌-◌, ◌*◌, ◌^◌, ◌<◌, ◌≤◌, Bool, true, false, eqb, ◌&&◌, List, [], ◌∷◌, ◌++◌, length, get_or, replicate, Option, Some, None, refl, sym, ap, ap₂, ◌∙◌, subst, arith, inl, inr, pow_pos, length-append, append-nil, append_assoc, cond}
use Rattle.std.specs.Prelude.{option_map, Contains}
use Rattle.std.specs.List.{AllByRecursion, IsDistinct, find}
use Rattle.std.proofs.Math.Nat.{mul-le-mul_right}
use Rattle.std.proofs.lemmas.Bool.{eqb-true, false≢true}
use Rattle.std.proofs.lemmas.Grind.{common_steps}
use Rattle.std.proofs.lemmas.List.{length-replicate}
use Rattle.std.proofs.lemmas.Nat.{pow-add}
use Rattle.std.proofs.lemmas.Option.{same_Some}
use Rattle.std.proofs.lemmas.Map.Keys.{IsDistinct-head, IsDistinct-tail}
use Rattle.bit_list.specs.Bits.{low_bits, number_of}
use Rattle.bit_list.specs.NumbersOfBits.{length-low_bits, number_again}
use Rattle.bit_list.proofs.LowBits.{number_below, bits_again}
use Rattle.jpeg_marker.specs.HuffmanTables.{TableFields, IsTable}
use Rattle.huff_table.specs.CodeWords.{CodeWord, bits_of, word_in, words_of, word_of, value_of}
use Rattle.huff_table.specs.CodesInside.{by_value, no_word}
use Rattle.huff_table.specs.declared.word.Word.{Word}
use Rattle.huff_table.proofs.WordSizes.{words_are_levels}
use Rattle.huff_table.proofs.Fits.{Fits, levels_fit, room_of_table, doubled}
use Rattle.huff_table.proofs.Decoded.{number, number_push}
use Rattle.huff_table.proofs.WordIndexes.{values_in, values_are, kept, kept_or, placed_at}
use Rattle.huff_table.proofs.Pairs.{Pairs, found_cases, found_passes, found_holds, found_too, two_found}
use Rattle.huff_table.proofs.Found.{is_word, eqb_same}
use Rattle.huff_table.proofs.Apart.{Before, words_apart}

pub words_fit : (table : TableFields) → IsTable table → AllByRecursion Fits (words_of table)
words_fit table is = subst (AllByRecursion Fits) (sym (words_are_levels table is)) (levels_fit 1 0 table.counts table.values (omega arith) (room_of_table table is))

-- the values of words differ
abbrev pub Differ : CodeWord → CodeWord → Type 0
Differ word later = eqb word.value later.value ≡ false

differ_head : (value : ℕ) (words : List CodeWord) → AllByRecursion (λ v. eqb value v ≡ false) (values_in words) → AllByRecursion (λ w. eqb value w.value ≡ false) words
differ_head value [] all = tt
differ_head value (word ∷ words) all = (all.0, differ_head value words all.1)

differ : (words : List CodeWord) → IsDistinct eqb (values_in words) → Pairs Differ words
differ [] once = tt
differ (word ∷ words) once = (differ_head word.value words (IsDistinct-head eqb word.value (values_in words) once), differ words (IsDistinct-tail eqb word.value (values_in words) once))

once_of : (table : TableFields) → IsTable table → IsDistinct eqb (values_in (words_of table))
once_of table is = subst (IsDistinct eqb) (sym (values_are table is)) is.distinct_values

-- one word of a value
one_of_value : (table : TableFields) → IsTable table → (p q : CodeWord → Bool) (a b : CodeWord) → find p (words_of table) ≡ Some a → find q (words_of table) ≡ Some b → a.value ≡ b.value → a ≡ b
one_of_value table is p q a b e f same =
    elim (two_found Differ p q a b (words_of table) (differ (words_of table) (once_of table is)) e f) [
      | inl one ↦ one
      | inr two ↦ absurd (false≢true (elim two as (λ _. false ≡ true) [ inl d ↦ sym d ∙ ap (λ v. eqb v b.value) same ∙ eqb_same b.value | inr d ↦ sym d ∙ ap (λ v. eqb v a.value) (sym same) ∙ eqb_same a.value ]))
    ]

-- words that begin alike don't stand one before the other
not_before : (a b p q : ℕ) → 0 < p → a * p ≡ b * q → (a + 1) * p ≤ b * q → ⊥
not_before a b p q some same before = omega arith

-- one word of a size and number
one_of_bits : (table : TableFields) → IsTable table → (p q : CodeWord → Bool) (a b : CodeWord) → find p (words_of table) ≡ Some a → find q (words_of table) ≡ Some b → a.size ≡ b.size → a.code ≡ b.code → a ≡ b
one_of_bits table is p q a b e f size code =
    let unit = pow_pos (16 - a.size) in
    let same : 2 ^ (16 - a.size) ≡ 2 ^ (16 - b.size) = ap (λ n. 2 ^ (16 - n)) size in
    let starts : a.code * 2 ^ (16 - a.size) ≡ b.code * 2 ^ (16 - b.size) = ap₂ (λ c n. c * 2 ^ (16 - n)) code size in
    elim (two_found Before p q a b (words_of table) (words_apart table is) e f) [
      | inl one ↦ one
      | inr two ↦ elim two [ inl d ↦ absurd (not_before a.code b.code (2 ^ (16 - a.size)) (2 ^ (16 - b.size)) unit starts d) | inr d ↦ absurd (not_before b.code a.code (2 ^ (16 - b.size)) (2 ^ (16 - a.size)) (omega arith) (sym starts) d) ]
    ]

-- the word of a value
some_word : (table : TableFields) (value : ℕ) (bits : List Bool) → word_of table value ≡ Some bits → (word : CodeWord) × (word_in (words_of table) value ≡ Some word) × (bits_of word ≡ bits)
unfolding word_of
some_word table value bits e =
    let P : Option CodeWord → Type 0 = λ found. word_in (words_of table) value ≡ found → option_map bits_of found ≡ Some bits → (word : CodeWord) × (word_in (words_of table) value ≡ Some word) × (bits_of word ≡ bits) in
    (elim (word_in (words_of table) value) as P [ None ↦ λ _ none. absurd (cc) | Some word ↦ λ is some. (word, is, same_Some _ _ some) ]) refl e

word_is : (table : TableFields) (value : ℕ) (word : CodeWord) → word_in (words_of table) value ≡ Some word → word_of table value ≡ Some (bits_of word)
unfolding word_of
word_is table value word e = ap (option_map bits_of) e

-- the value of bits
abbrev pub spelled : List Bool → CodeWord → Bool
spelled bits word = is_word (length bits) (number_of bits) word

some_value : (table : TableFields) (value : ℕ) (bits : List Bool) → value_of table bits ≡ Some value → (word : CodeWord) × (find (spelled bits) (words_of table) ≡ Some word) × (word.value ≡ value)
unfolding value_of
some_value table value bits e =
    let P : Option CodeWord → Type 0 = λ found. find (spelled bits) (words_of table) ≡ found → option_map (λ (w : CodeWord). w.value) found ≡ Some value
    → (word : CodeWord) × (find (spelled bits) (words_of table) ≡ Some word) × (word.value ≡ value) in
    (elim (find (spelled bits) (words_of table)) as P [ None ↦ λ _ none. absurd (cc) | Some word ↦ λ is some. (word, is, same_Some _ _ some) ]) refl e

value_is : (table : TableFields) (bits : List Bool) (word : CodeWord) → find (spelled bits) (words_of table) ≡ Some word → value_of table bits ≡ Some word.value
unfolding value_of
value_is table bits word e = ap (option_map (λ (w : CodeWord). w.value)) e

both_true : (a b : Bool) → a && b ≡ true → (a ≡ true) × (b ≡ true)
both_true true b h = (refl, h)
both_true false b h = absurd (false≢true h)

-- a word's bits have its size and its number, and tell them
size_of_bits : (word : CodeWord) (bits : List Bool) → bits_of word ≡ bits → word.size ≡ length bits
size_of_bits word bits e = sym (length-low_bits word.size word.code) ∙ ap length e

code_of_bits : (word : CodeWord) (bits : List Bool) → Fits word → bits_of word ≡ bits → word.code ≡ number_of bits
code_of_bits word bits fits e = sym (number_again word.size word.code fits.below) ∙ ap number_of e

pub words_of_values : (table : TableFields) (value : ℕ) (bits : List Bool) → IsTable table → word_of table value ≡ Some bits → value_of table bits ≡ Some value
words_of_values table value bits is e =
    let w = some_word table value bits e in
    let word = w.0 in
    let fits = found_holds Fits (λ (x : CodeWord). eqb x.value value) word (words_of table) (words_fit table is) w.1 in
    let size = size_of_bits word bits w.2 in
    let code = code_of_bits word bits fits w.2 in
    let passes : spelled bits word ≡ true = ap₂ (λ s c. eqb s (length bits) && eqb c (number_of bits)) size code ∙ ap₂ (λ a b. a && b) (eqb_same (length bits)) (eqb_same (number_of bits)) in
    let other = found_too (λ (x : CodeWord). eqb x.value value) (spelled bits) word (words_of table) w.1 passes in
    let tests = both_true (eqb other.0.size (length bits)) (eqb other.0.code (number_of bits)) (found_passes (spelled bits) other.0 (words_of table) other.1) in
    let one = one_of_bits table is (λ (x : CodeWord). eqb x.value value) (spelled bits) word other.0 w.1 other.1 (size ∙ sym (eqb-true _ _ tests.0)) (code ∙ sym (eqb-true _ _ tests.1)) in
    let its : word.value ≡ value = eqb-true word.value value (found_passes (λ (x : CodeWord). eqb x.value value) word (words_of table) w.1) in
    value_is table bits other.0 other.1 ∙ ap (λ (x : CodeWord). Some x.value) (sym one) ∙ ap Some its

pub values_of_words : (table : TableFields) (value : ℕ) (bits : List Bool) → IsTable table → value_of table bits ≡ Some value → word_of table value ≡ Some bits
values_of_words table value bits is e =
    let w = some_value table value bits e in
    let word = w.0 in
    let tests = both_true (eqb word.size (length bits)) (eqb word.code (number_of bits)) (found_passes (spelled bits) word (words_of table) w.1) in
    let passes : eqb word.value value ≡ true = ap (λ v. eqb v value) w.2 ∙ eqb_same value in
    let other = found_too (spelled bits) (λ (x : CodeWord). eqb x.value value) word (words_of table) w.1 passes in
    let its : other.0.value ≡ value = eqb-true other.0.value value (found_passes (λ (x : CodeWord). eqb x.value value) other.0 (words_of table) other.1) in
    let one = one_of_value table is (spelled bits) (λ (x : CodeWord). eqb x.value value) word other.0 w.1 other.1 (w.2 ∙ sym its) in
    word_is table value other.0 other.1 ∙ ap (λ (x : CodeWord). Some (bits_of x)) (sym one)
    ∙ ap Some (ap₂ low_bits (eqb-true _ _ tests.0) (eqb-true _ _ tests.1) ∙ bits_again bits)

-- bits after bits
join_step : (x f b p s n w : ℕ) → s ≡ p * 2 → x ≡ (2 * f + b) * p + n → w ≡ b * p + n → x ≡ f * s + w
join_step x f b p s n w twice all rest = let e : f * s ≡ f * (p * 2) = ap (λ k. f * k) twice in omega arith

number_join : (prefix more : List Bool) → number_of (prefix ++ more) ≡ number_of prefix * 2 ^ length more + number_of more
number_join prefix [] = ap number_of (append-nil prefix) ∙ omega arith
number_join prefix (bit ∷ more) =
    let all = ap number_of (sym (append_assoc prefix (bit ∷ []) more)) ∙ number_join (prefix ++ bit ∷ []) more ∙ ap (λ n. n * 2 ^ length more + number_of more) (number_push prefix bit) in
    let rest = number_join (bit ∷ []) more ∙ ap (λ n. n * 2 ^ length more + number_of more) (number_push [] bit) in
    let alone : number_of (bit ∷ more) ≡ number bit * 2 ^ length more + number_of more = omega (arith, rest) in
    join_step (number_of (prefix ++ bit ∷ more)) (number_of prefix) (number bit) (2 ^ length more) (2 ^ suc (length more)) (number_of more) (number_of (bit ∷ more)) (doubled (length more)) all alone

-- of two words, neither begins the other
never_before : (a b m r p q : ℕ) → q ≡ m * p → b ≡ a * m + r → r < m → 0 < p → (a + 1) * q ≤ b * p → ⊥
never_before a b m r p q wide is low some before =
    let most : (r + 1) * p ≤ m * p = mul-le-mul_right p (omega arith) in
    let e : (a + 1) * q ≡ (a + 1) * (m * p) = ap (λ n. (a + 1) * n) wide in
    let f : b * p ≡ (a * m + r) * p = ap (λ n. n * p) is in
    omega arith

never_after : (a b m r p q : ℕ) → 0 < p → q ≡ m * p → b ≡ a * m + r → (b + 1) * p ≤ a * q → ⊥
never_after a b m r p q some wide is before =
    let e : a * q ≡ a * (m * p) = ap (λ n. a * n) wide in
    let f : (b + 1) * p ≡ (a * m + r + 1) * p = ap (λ n. (n + 1) * p) is in
    omega arith

pub one_begins : (table : TableFields) (value other : ℕ) (bits more : List Bool) → IsTable table → word_of table value ≡ Some bits → word_of table other ≡ Some (bits ++ more) → value ≡ other
one_begins table value other bits more is e f =
    let w = some_word table value bits e in
    let v = some_word table other (bits ++ more) f in
    let one = w.0 in
    let two = v.0 in
    let p = λ (x : CodeWord). eqb x.value value in
    let q = λ (x : CodeWord). eqb x.value other in
    let fits = found_holds Fits p one (words_of table) (words_fit table is) w.1 in
    let wide = found_holds Fits q two (words_of table) (words_fit table is) v.1 in
    let size = size_of_bits one bits w.2 in
    let longer : two.size ≡ length bits + length more = size_of_bits two (bits ++ more) v.2 ∙ length-append bits more in
    let code = code_of_bits one bits fits w.2 in
    let joined : two.code ≡ one.code * 2 ^ length more + number_of more = code_of_bits two (bits ++ more) wide v.2 ∙ number_join bits more ∙ ap (λ n. n * 2 ^ length more + number_of more) (sym code) in
    let gap : 16 - one.size ≡ length more + (16 - two.size) = omega (arith, size, longer, wide.few) in
    let unit : 2 ^ (16 - one.size) ≡ 2 ^ length more * 2 ^ (16 - two.size) = ap (λ n. 2 ^ n) gap ∙ pow-add 2 (length more) (16 - two.size) in
    let its : one.value ≡ value = eqb-true one.value value (found_passes p one (words_of table) w.1) in
    let others : two.value ≡ other = eqb-true two.value other (found_passes q two (words_of table) v.1) in
    elim (two_found Before p q one two (words_of table) (words_apart table is) w.1 v.1) [
      | inl same ↦ sym its ∙ ap (λ (x : CodeWord). x.value) same ∙ others
      | inr order ↦ elim order [
        | inl before ↦ absurd (never_before one.code two.code (2 ^ length more) (number_of more) (2 ^ (16 - two.size)) (2 ^ (16 - one.size)) unit joined (number_below more) (pow_pos (16 - two.size)) before)
        | inr after ↦ absurd (never_after one.code two.code (2 ^ length more) (number_of more) (2 ^ (16 - two.size)) (2 ^ (16 - one.size)) (pow_pos (16 - two.size)) unit joined after)
      ]
    ]

get_or-replicate : (n value : ℕ) → get_or (replicate n no_word) value no_word ≡ no_word
get_or-replicate n value = grind (arith, common_steps)

-- what stands at a value's place
looked_up : (table : TableFields) (value : ℕ) → IsTable table → value < 256 → get_or (by_value table) value no_word ≡ kept_or no_word (word_in (words_of table) value)
unfolding by_value
looked_up table value is below =
    placed_at (replicate 256 no_word) (words_of table) value no_word (omega (arith, length-replicate 256 no_word)) (once_of table is)
    ∙ ap (λ old. kept_or old (word_in (words_of table) value)) (get_or-replicate 256 value)

-- a value that has a word is one of the table's
contains_found : (words : List CodeWord) (value : ℕ) (word : CodeWord) → word_in words value ≡ Some word → Contains (values_in words) value
contains_found [] value word e = absurd (cc)
contains_found (x ∷ words) value word e =
    elim (found_cases (λ (w : CodeWord). eqb w.value value) x word words e) [
      | inl here ↦ (0, omega arith, eqb-true x.value value here.0)
      | inr later ↦ let rest = contains_found words value word later.1 in (suc rest.0, omega (arith, rest.1), rest.2)
    ]

later : (x : ℕ) (xs : List ℕ) (value : ℕ) → eqb x value ≡ false → Contains (x ∷ xs) value → Contains xs value
later x xs value other (zero, below, is) = absurd (false≢true (sym other ∙ ap (λ v. eqb v value) is ∙ eqb_same value))
later x xs value other (suc k, below, is) = (k, omega arith, is)

found_contained : (words : List CodeWord) (value : ℕ) → word_in words value ≡ None → Contains (values_in words) value → ⊥
found_contained [] value e has = omega (arith, has.1)
found_contained (x ∷ words) value e has =
    let Q : Bool → Type 0 = λ test. eqb x.value value ≡ test → cond test (Some x) (word_in words value) ≡ None → ⊥ in
    (elim (eqb x.value value) as Q [
      | true ↦ λ _ none. absurd (cc)
      | false ↦ λ other none. found_contained words value none (later x.value (values_in words) value other has)
    ]) refl e

-- what is kept of a value that has a word
pub record Has (table : TableFields) (value : ℕ) (found : Word) : Type 0 where
  pub word : word_of table value ≡ Some (low_bits found.size found.code)
  pub below : found.code < 2 ^ found.size
  pub some : 1 ≤ found.size
  pub few : found.size ≤ 16
  pub there : Contains table.values value

has_by : (table : TableFields) (value : ℕ) → IsTable table → (word : CodeWord) → word_in (words_of table) value ≡ Some word → Has table value (kept word)
has_by table value is word e =
    let fits = found_holds Fits (λ (x : CodeWord). eqb x.value value) word (words_of table) (words_fit table is) e in
    record {
      word = word_is table value word e;
      below = fits.below;
      some = fits.some;
      few = fits.few;
      there = subst (λ (vs : List ℕ). Contains vs value) (values_are table is) (contains_found (words_of table) value word e);
    }

abbrev pub HasNone : TableFields → ℕ → Type 0
HasNone table value = (word_of table value ≡ None) × (Contains table.values value → ⊥)

has_none : (table : TableFields) (value : ℕ) → IsTable table → word_in (words_of table) value ≡ None → HasNone table value
unfolding word_of
has_none table value is e = (ap (option_map bits_of) e, λ has. found_contained (words_of table) value e (subst (λ (vs : List ℕ). Contains vs value) (sym (values_are table is)) has))

-- a word of no bits stands where there is none
pub has_or_none : (table : TableFields) (value : ℕ) (found : Word) → IsTable table → value < 256 → found ≡ get_or (by_value table) value no_word → ((found.size ≡ 0) × HasNone table value) ⊎ Has table value found
has_or_none table value found is below e =
    let P : Option CodeWord → Type 0 = λ o. word_in (words_of table) value ≡ o → found ≡ kept_or no_word o → ((found.size ≡ 0) × HasNone table value) ⊎ Has table value found in
    (elim (word_in (words_of table) value) as P [
      | None ↦ λ o f. inl (ap (λ (w : Word). w.size) f, has_none table value is o)
      | Some word ↦ λ o f. inr (subst (Has table value) (sym f) (has_by table value is word o))
    ]) refl (e ∙ looked_up table value is below)

pub has_if_some : (table : TableFields) (value : ℕ) (found : Word) → IsTable table → value < 256 → found ≡ get_or (by_value table) value no_word → found.size ≢ 0 → Has table value found
has_if_some table value found is below e some = elim (has_or_none table value found is below e) [ inl none ↦ absurd (some none.0) | inr has ↦ has ]

pub none_if_none : (table : TableFields) (value : ℕ) (found : Word) → IsTable table → value < 256 → found ≡ get_or (by_value table) value no_word → found.size ≡ 0 → HasNone table value
none_if_none table value found is below e nothing = elim (has_or_none table value found is below e) [ inl none ↦ none.1 | inr has ↦ absurd (omega (arith, has.some)) ]

-- a word has from 1 to 16 bits
pub word_size : (table : TableFields) (value : ℕ) (bits : List Bool) → IsTable table → word_of table value ≡ Some bits → (1 ≤ length bits) × (length bits ≤ 16)
word_size table value bits is e =
    let w = some_word table value bits e in
    let fits = found_holds Fits (λ (x : CodeWord). eqb x.value value) w.0 (words_of table) (words_fit table is) w.1 in
    let size = size_of_bits w.0 bits w.2 in
    (omega (arith, size, fits.some), omega (arith, size, fits.few))

-- a value that has a word is one of the table's
pub value_there : (table : TableFields) (value : ℕ) (bits : List Bool) → IsTable table → word_of table value ≡ Some bits → Contains table.values value
value_there table value bits is e = let w = some_word table value bits e in (has_by table value is w.0 w.1).there
