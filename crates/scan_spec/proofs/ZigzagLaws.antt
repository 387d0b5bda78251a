-- Blocks are told by their coefficients in zigzag order.
use Rattle.std.proofs.Common.{◌≡◌, ◌≢◌, set, ℕ, zero, suc, ◌+◌, ◌<◌, Bool, true, ◌==◌, List, [], ◌∷◌, length, map, drop, get_or, ℤ, pos, refl, sym, ap, ap₂, ◌∙◌, arith, inl, inr, drop-cons, add-one}
use Rattle.std.specs.Prelude.{nat_lt}
use Rattle.std.proofs.lemmas.Bool.{eqb-true, cases_eq, agree_below_at}
use Rattle.std.proofs.lemmas.Bool.Decides.{nat_tests}
use Rattle.std.proofs.lemmas.List.{drop_all, get_or-map, get_or-set_same, get_or-set_other, length-set}
use Rattle.std.specs.List.{range_with_len}
use Rattle.coef_block.specs.Zigzag.{zigzag}
use Rattle.scan_spec.specs.BlockBits.{coefficient_at, ac_values, in_zigzag}
use Rattle.scan_spec.specs.ScanLaws.{ZigzagDetermines, IsSetInZigzag}

-- a list by its items
items_from : (n from : ℕ) (l : List ℤ) → from + n ≡ length l → map (λ i. get_or l i (pos 0)) (range_with_len from n) ≡ drop from l
items_from zero from l e = sym (drop_all from l (omega (arith, e)))
items_from (suc n) from l e =
    ap (λ (r : List ℤ). get_or l from (pos 0) ∷ r) (items_from n (from + 1) l (omega (arith, e)))
    ∙ ap (λ (k : ℕ). get_or l from (pos 0) ∷ drop k l) (add-one from)
    ∙ sym (drop-cons l from (pos 0) (omega (arith, e)))

pub by_items : (n : ℕ) (l : List ℤ) → length l ≡ n → map (λ i. get_or l i (pos 0)) (range_with_len 0 n) ≡ l
by_items n l e = items_from n 0 l (omega (arith, e))

-- the zigzag index of each natural place
abbrev pub indexes : List ℕ
indexes =
    0 ∷ 1 ∷ 5 ∷ 6 ∷ 14 ∷ 15 ∷ 27 ∷ 28 ∷
    2 ∷ 4 ∷ 7 ∷ 13 ∷ 16 ∷ 26 ∷ 29 ∷ 42 ∷
    3 ∷ 8 ∷ 12 ∷ 17 ∷ 25 ∷ 30 ∷ 41 ∷ 43 ∷
    9 ∷ 11 ∷ 18 ∷ 24 ∷ 31 ∷ 40 ∷ 44 ∷ 53 ∷
    10 ∷ 19 ∷ 23 ∷ 32 ∷ 39 ∷ 45 ∷ 52 ∷ 54 ∷
    20 ∷ 22 ∷ 33 ∷ 38 ∷ 46 ∷ 51 ∷ 55 ∷ 60 ∷
    21 ∷ 34 ∷ 37 ∷ 47 ∷ 50 ∷ 56 ∷ 59 ∷ 61 ∷
    35 ∷ 36 ∷ 48 ∷ 49 ∷ 57 ∷ 58 ∷ 62 ∷ 63 ∷ []

-- the block whose coefficients in zigzag order these are
abbrev pub natural_of : List ℤ → List ℤ
natural_of values = map (λ i. get_or values i (pos 0)) indexes

pub zigzag_again : (values : List ℤ) → length values ≡ 64 → in_zigzag (natural_of values) ≡ values
unfolding ac_values
zigzag_again values long = by_items 64 values long

pub natural_again : (block : List ℤ) → length block ≡ 64 → natural_of (in_zigzag block) ≡ block
unfolding ac_values
natural_again block long = by_items 64 block long

pub zigzag_tells : ZigzagDetermines
zigzag_tells a b x y e = sym (natural_again a x) ∙ ap natural_of e ∙ natural_again b y

pub length-in_zigzag : (block : List ℤ) → length (in_zigzag block) ≡ 64
unfolding ac_values
length-in_zigzag block = refl

-- lists of one length with the same items
same_items : (a b : List ℤ) → length a ≡ length b → ((j : ℕ) → j < length a → get_or a j (pos 0) ≡ get_or b j (pos 0)) → a ≡ b
same_items [] [] e h = refl
same_items [] (y ∷ b) e h = absurd (omega (arith, e))
same_items (x ∷ a) [] e h = absurd (omega (arith, e))
same_items (x ∷ a) (y ∷ b) e h = ap₂ (λ (z : ℤ) (l : List ℤ). z ∷ l) (h 0 (omega arith)) (same_items a b (omega (arith, e)) (λ j below. h (suc j) (omega (arith, below))))

-- a place at each index, and the index again
there : ℕ → Bool
there j = nat_lt (get_or zigzag j 0) 64

again : ℕ → Bool
again j = get_or indexes (get_or zigzag j 0) 0 == j

place_below : (j : ℕ) → j < 64 → get_or zigzag j 0 < 64
unfolding there
place_below j below = let e : there j ≡ true = agree_below_at there (λ n. true) 64 j refl below in let f : nat_lt (get_or zigzag j 0) 64 ≡ true = e in grind (arith, nat_tests, f)

index_again : (j : ℕ) → j < 64 → get_or indexes (get_or zigzag j 0) 0 ≡ j
unfolding again
index_again j below = eqb-true (get_or indexes (get_or zigzag j 0) 0) j (agree_below_at again (λ n. true) 64 j refl below)

zigzag_at : (block : List ℤ) (j : ℕ) → j < 64 → get_or (in_zigzag block) j (pos 0) ≡ get_or block (get_or zigzag j 0) (pos 0)
unfolding ac_values
zigzag_at block j below = get_or-map (coefficient_at block) zigzag j 0 (pos 0) below

set_item : (block : List ℤ) (index j : ℕ) (value : ℤ) → length block ≡ 64 → index < 64 → j < 64
    → get_or (in_zigzag (set block (get_or zigzag index 0) value)) j (pos 0) ≡ get_or (set (in_zigzag block) index value) j (pos 0)
set_item block index j value long below within =
    let place = get_or zigzag index 0 in
    let small = place_below index below in
    let size = length-in_zigzag block in
    zigzag_at (set block place value) j within
    ∙ elim (cases_eq j index) [
      | inl same ↦
          ap (λ (k : ℕ). get_or (set block place value) (get_or zigzag k 0) (pos 0)) same ∙ get_or-set_same block place value (pos 0) (omega (arith, small, long))
          ∙ sym (get_or-set_same (in_zigzag block) index value (pos 0) (omega (arith, size, below))) ∙ ap (λ (k : ℕ). get_or (set (in_zigzag block) index value) k (pos 0)) (sym same)
      | inr other ↦
          let apart : get_or zigzag j 0 ≢ place = λ e. other (sym (index_again j within) ∙ ap (λ (p : ℕ). get_or indexes p 0) e ∙ index_again index below) in
          get_or-set_other block place (get_or zigzag j 0) value (pos 0) apart ∙ sym (zigzag_at block j within) ∙ sym (get_or-set_other (in_zigzag block) index j value (pos 0) other)
    ]

pub set_in_zigzag : IsSetInZigzag
set_in_zigzag block index value long below =
    let changed = set block (get_or zigzag index 0) value in
    let a = length-in_zigzag changed in
    let b = length-set (in_zigzag block) index value ∙ length-in_zigzag block in
    same_items (in_zigzag changed) (set (in_zigzag block) index value) (a ∙ sym b) (λ j h. set_item block index j value long below (omega (arith, h, a)))
