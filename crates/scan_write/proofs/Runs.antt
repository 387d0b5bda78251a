-- Runs of zeros in a block: what is to be written after them.
use Rattle.std.proofs.Common.{◌≡◌, ◌≢◌, ℕ, zero, suc, ◌+◌, ◌-◌, ◌<◌, ◌≤◌, ◌==◌, Bool, true, false, not, List, [], ◌∷◌, drop, get_or, slice_index, ℤ, pos, unsigned_abs, inl, inr, ap, ap₂, subst, sym, ◌∙◌, refl, arith, drop-cons}
use Rattle.std.proofs.lemmas.List.{drop_all, get_or-map, get_or-drop}
use Rattle.std.specs.Int.{bit_at}
use Rattle.std.proofs.lemmas.Bool.{cases_eq, cases_lt, eqb-true, not-false}
use Rattle.std.proofs.lemmas.Nat.Bits.{bit_at-zero}
use Rattle.coef_block.specs.Nonzeros.{is_nonzero}
use Rattle.coef_block.specs.Zigzag.{zigzag}
use Rattle.coef_block.proofs.Masks.{bit_of}
use Rattle.jpeg_marker.specs.HuffmanTables.{TableFields}
use Rattle.scan_spec.specs.BlockBits.{Text, then_text, ac_text, ac_values, coefficient_at, coefficient_text}
use Rattle.scan_spec.proofs.Words.{ac_zero, ac_value, length-ac_values}
use Rattle.scan_write.specs.Appending.{HasAppended}
use Rattle.scan_write.proofs.LeftInBlock.{AreLeft}
use Rattle.scan_write.specs.Outputs.{OutputState}

-- the coefficient at an index
abbrev at : List ℤ → ℕ → ℤ
at block index = coefficient_at block (slice_index zigzag index)

-- the one after an index, and those after it
value_at : (block : List ℤ) (last : ℕ) → last < 63 → get_or (ac_values block) last (pos 0) ≡ at block (suc last)
unfolding ac_values
value_at block last below =
    let one : 1 + last ≡ suc last = omega arith in
    get_or-map (coefficient_at block) (drop 1 zigzag) last 0 (pos 0) below
    ∙ ap (coefficient_at block) (get_or-drop 1 zigzag last 0 ∙ ap (slice_index zigzag) one)

next : (block : List ℤ) (last : ℕ) → last < 63
    → drop last (ac_values block) ≡ at block (suc last) ∷ drop (suc last) (ac_values block)
next block last below =
    drop-cons (ac_values block) last (pos 0) (omega (arith, length-ac_values block))
    ∙ ap (λ (v : ℤ). v ∷ drop (suc last) (ac_values block)) (value_at block last below)

-- what the test of an index says of its coefficient
no_bits : (n : ℕ) → not (n == 0) ≡ false → n ≡ 0
no_bits n e = eqb-true n 0 (not-false (n == 0) e)

some_bits : (n : ℕ) → not (n == 0) ≡ true → n ≡ 0 → ⊥
some_bits n e none = let no : not (0 == 0) ≡ true = rw none at e in cc

-- zeros after an index count with those before
zeros_after : (n : ℕ) (table : TableFields) (block : List ℤ) (zeros last : ℕ) → last + n < 64
    → ((index : ℕ) → last < index → index ≤ last + n → is_nonzero block index ≡ false)
    → ac_text table zeros (drop last (ac_values block)) ≡ ac_text table (zeros + n) (drop (last + n) (ac_values block))
zeros_after zero table block zeros last below none =
    let a : zeros ≡ zeros + 0 = omega arith in
    let b : last ≡ last + 0 = omega arith in
    ap₂ (λ (z l : ℕ). ac_text table z (drop l (ac_values block))) a b
zeros_after (suc n) table block zeros last below none =
    let a : zeros + 1 + n ≡ zeros + suc n = omega arith in
    let b : suc last + n ≡ last + suc n = omega arith in
    let here = no_bits (unsigned_abs (at block (suc last))) (none (suc last) (omega arith) (omega arith)) in
    ap (ac_text table zeros) (next block last (omega arith))
    ∙ ac_zero table zeros (at block (suc last)) (drop (suc last) (ac_values block)) here
    ∙ zeros_after n table block (zeros + 1) (suc last) (omega arith) (λ index more few. none index (omega arith) (omega arith))
    ∙ ap₂ (λ (z l : ℕ). ac_text table z (drop l (ac_values block))) a b

-- a coefficient that isn't 0 after zeros
value_after : (table : TableFields) (block : List ℤ) (last index : ℕ) → last < index → index < 64
    → ((other : ℕ) → last < other → other < index → is_nonzero block other ≡ false) → is_nonzero block index ≡ true
    → ac_text table 0 (drop last (ac_values block))
    ≡ then_text (coefficient_text table (index - last - 1) (at block index)) (ac_text table 0 (drop index (ac_values block)))
value_after table block last index later below none some =
    let n = index - last - 1 in
    let only : 0 + n ≡ n = omega arith in
    let one : suc (last + n) ≡ index = omega arith in
    zeros_after n table block 0 last (omega arith) (λ other more few. none other more (omega arith))
    ∙ ap₂ (ac_text table) only (next block (last + n) (omega arith))
    ∙ ap (λ (i : ℕ). ac_text table n (at block i ∷ drop i (ac_values block))) one
    ∙ ac_value table n (at block index) (drop index (ac_values block)) (some_bits (unsigned_abs (at block index)) some)

-- nothing but zeros after the last one
pub none_after : (table : TableFields) (block : List ℤ) (last : ℕ) → last < 64
    → ((index : ℕ) → last < index → index < 64 → is_nonzero block index ≡ false)
    → ac_text table 0 (drop last (ac_values block)) ≡ ac_text table (63 - last) []
none_after table block last below none =
    let n = 63 - last in
    let only : 0 + n ≡ n = omega arith in
    let all : last + n ≡ 63 = omega arith in
    zeros_after n table block 0 last (omega arith) (λ index more few. none index more (omega arith))
    ∙ ap₂ (ac_text table) only (ap (λ (l : ℕ). drop l (ac_values block)) all ∙ drop_all 63 (ac_values block) (omega (arith, length-ac_values block)))

-- what a bit says of its coefficient
bit_none : (test : Bool) → bit_of test ≡ 0 → test ≡ false
bit_none true e = absurd (omega arith)
bit_none false e = refl

bit_some : (test : Bool) → bit_of test ≡ 1 → test ≡ true
bit_some true e = refl
bit_some false e = absurd (omega arith)

-- the lowest of the coefficients that are left
module _ (left last index : ℕ) (block : List ℤ) (is : AreLeft left last block)
    (below : (other : ℕ) → other < index → bit_at left other ≡ 0) where
  pub later_is : bit_at left index ≡ 1 → last < index
  later_is here = elim (cases_lt last index) [
    | inl later ↦ later
    | inr before ↦ absurd (omega (arith, is.written index before))
  ]

  skipped : index < 64 → (other : ℕ) → last < other → other < index → is_nonzero block other ≡ false
  skipped within other later before =
      bit_none (is_nonzero block other) (sym (is.others other later (omega arith)) ∙ below other before)

  pub found : bit_at left index ≡ 1 → last < index → index < 64 → is_nonzero block index ≡ true
  found here later within = bit_some (is_nonzero block index) (sym (is.others index later within) ∙ here)

  -- so it is due next, after the zeros before it
  pub due : (table : TableFields) (whole : Text) (old now : OutputState) → bit_at left index ≡ 1 → index < 64
      → HasAppended whole old now (ac_text table 0 (drop last (ac_values block)))
      → HasAppended whole old now
      (then_text (coefficient_text table (index - last - 1) (at block index)) (ac_text table 0 (drop index (ac_values block))))
  due table whole old now here within =
      let later = later_is here in
      subst (λ (t : Text). HasAppended whole old now t)
      (value_after table block last index later within (skipped within) (found here later within))

  -- and those that are left after it
  pub left_after : (new : ℕ) → index < 64 → last < index → bit_at new index ≡ 0
      → ((other : ℕ) → other < 64 → other ≢ index → bit_at new other ≡ bit_at left other) → AreLeft new index block
  left_after new within later here others = record {
    written = λ other few. elim (cases_eq other index) [
      | inl e ↦ ap (bit_at new) e ∙ here
      | inr apart ↦ others other (omega arith) apart ∙ below other (omega arith)
    ];
    others = λ other more low. others other low (λ e. absurd (omega arith)) ∙ is.others other (omega arith) low;
  }

-- no bit is left
pub no_bit : (left last : ℕ) (block : List ℤ) → AreLeft left last block → left ≡ 0 → (index : ℕ) → last < index → index < 64
    → is_nonzero block index ≡ false
no_bit left last block is none index later within =
    bit_none (is_nonzero block index)
    (sym (is.others index later within) ∙ ap (λ (n : ℕ). bit_at n index) none ∙ bit_at-zero index)

-- a coefficient that isn't 0 has a magnitude
pub magnitude_some : (block : List ℤ) (index : ℕ) (value : ℤ) → is_nonzero block index ≡ true → at block index ≡ value → 0 < unsigned_abs value
magnitude_some block index value some e =
    let here : ¬ (unsigned_abs value ≡ 0) = λ none. some_bits (unsigned_abs (at block index)) some (ap unsigned_abs e ∙ none) in
    omega arith
