-- A block is one by its events.
use Rattle.std.proofs.Common.{◌≡◌, ◌⊎◌, inl, inr, ℕ, ◌<◌, ◌≤◌, Bool, true, false, true≢false, List, [], ◌∷◌, ◌++◌, refl, ap, ◌∙◌, sym, subst, arith, length, map, get_or, drop}
use Rattle.std.specs.Prelude.{◌==◌, ◌&&◌, ◌||◌, nat_lt, if◌then◌else◌, ℤ, pos, negsuc, unsigned_abs, ◌-ℤ◌}
use Rattle.std.specs.List.{AllByRecursion, list_all}
use Rattle.std.proofs.lemmas.Bool.{and_parts, or_cases, eqb-true, ltb-true, agree_below_at}
use Rattle.std.proofs.lemmas.Int.{ints}
use Rattle.std.proofs.lemmas.List.{length-map, ext_get_or}
use Rattle.coef_block.specs.Block.{IsDc, IsBlock}
use Rattle.block_spec.specs.EventsApart.{AreApart, OneOrApart}
use Rattle.block_spec.specs.Values.{category_of, nonzeros, count_events, values_events}
use Rattle.block_spec.specs.Around.{Around, value_at, values_in, inner_positions, row_positions, column_positions, inner_count, guess, prediction, dc}
use Rattle.block_spec.specs.BlockEvents.{block_events, inner_count_events, edge_events, dc_events, ac_events, inner_bins, edge_bins}
use Rattle.block_spec.proofs.CategoryBits.{category_at_most}
use Rattle.block_spec.proofs.ValuesApart.{then_apart, apart_more, apart_after, count_apart, value_apart, values_apart, nonzeros_le, IsTen}

-- positions of coefficients other than the DC
abbrev pub are_positions : List ℕ → Bool
are_positions positions = list_all (λ p. nat_lt 0 p && nat_lt p 64) positions

limit_of : (p : ℕ) → 0 < p → (x : ℤ) → unsigned_abs x ≤ (if p == 0 then 32767 else 1023) → category_of x ≤ 10
limit_of p some x h = elim (p == 0) as (λ t. p == 0 ≡ t → unsigned_abs x ≤ (if t then 32767 else 1023) → category_of x ≤ 10)
    [ true ↦ λ e k. absurd (let z : p ≡ 0 = eqb-true _ _ e in omega (arith, z, some)) | false ↦ λ e k. category_at_most 10 (unsigned_abs x) (omega (arith, k)) ] refl h

tens : (positions : List ℕ) (block : List ℤ) → IsBlock block → are_positions positions ≡ true
    → AllByRecursion IsTen (values_in positions block)
unfolding values_in
tens [] block is h = tt
tens (p ∷ ps) block is h =
    let outer = and_parts _ _ h in
    let inner = and_parts _ _ outer.0 in
    (limit_of p (ltb-true _ _ inner.0) (value_at block p) (is.coefficients p (ltb-true _ _ inner.1)), tens ps block is outer.1)

edge_apart : (class : ℕ) (column : Bool) (around : Around) (inner : ℕ) (xs ys : List ℤ) → length xs ≡ 7 → length ys ≡ 7
    → AllByRecursion IsTen xs → AllByRecursion IsTen ys →
    OneOrApart xs ys (edge_events class column around inner xs) (edge_events class column around inner ys)
unfolding edge_events
edge_apart class column around inner xs ys lx ly tx ty =
    let hx = nonzeros_le xs in
    let hy = nonzeros_le ys in
    elim (then_apart (nonzeros xs) (nonzeros ys) xs ys _ _ (values_events (edge_bins class column around) 0 xs) (values_events (edge_bins class column around) 0 ys)
    (count_apart _ 3 (nonzeros xs) (nonzeros ys) (omega (arith, hx, lx)) (omega (arith, hy, ly))) (λ e. ap (count_events _ 3) e)
    (λ e. values_apart (edge_bins class column around) 0 xs ys (lx ∙ sym ly) e tx ty))
    [ inl e ↦ inl e.1 | inr h ↦ inr h ]

-- the parts of a block
pub record Parts : Type 0 where
  pub inner : List ℤ
  pub row : List ℤ
  pub column : List ℤ
  pub residue : ℤ

pub record ArePaired (p : Parts) : Type 0 where
  pub inner : length p.inner ≡ 49
  pub row : length p.row ≡ 7
  pub column : length p.column ≡ 7
  pub inner_tens : AllByRecursion IsTen p.inner
  pub row_tens : AllByRecursion IsTen p.row
  pub column_tens : AllByRecursion IsTen p.column
  pub residue : category_of p.residue ≤ 16

abbrev edges_of : ℕ → Around → ℕ → List ℤ → List ℤ → List (ℕ × Bool)
edges_of class around n row column = edge_events class false around n row ++ edge_events class true around n column

abbrev values_of : ℕ → Around → Parts → List (ℕ × Bool)
values_of class around p = values_events (inner_bins class around) 0 p.inner ++ edges_of class around (nonzeros p.inner) p.row p.column

abbrev pub parts_events : ℕ → Around → Parts → List (ℕ × Bool)
parts_events class around p = inner_count_events class (guess around) (nonzeros p.inner) ++ (values_of class around p ++ dc_events class around p.residue)

-- the parts before the DC are one
abbrev pub SameValues : Parts → Parts → Type 0
SameValues p q = (p.inner ≡ q.inner) × (p.row ≡ q.row) × (p.column ≡ q.column)

edges_apart : (class : ℕ) (around : Around) (n m : ℕ) (p q : Parts) → ArePaired p → ArePaired q → n ≡ m →
    ((p.row ≡ q.row) × (p.column ≡ q.column)) ⊎ AreApart (edges_of class around n p.row p.column) (edges_of class around m q.row q.column)
edges_apart class around n m p q fp fq e =
    subst (λ (k : ℕ). ((p.row ≡ q.row) × (p.column ≡ q.column)) ⊎ AreApart (edges_of class around n p.row p.column) (edges_of class around k q.row q.column)) e
    (then_apart p.row q.row p.column q.column (edge_events class false around n p.row) (edge_events class false around n q.row) (edge_events class true around n p.column) (edge_events class true around n q.column)
    (edge_apart class false around n p.row q.row fp.row fq.row fp.row_tens fq.row_tens) (λ f. ap (edge_events class false around n) f)
    (λ f. edge_apart class true around n p.column q.column fp.column fq.column fp.column_tens fq.column_tens))

pair_of : {X Y : Type 0} → (a b : X) (c d : Y) → a ≡ b → c ≡ d
    → (let p : X × Y = (a, c) in p) ≡ (let q : X × Y = (b, d) in q)
pair_of a b c d e f = ap (λ x. (x, c)) e ∙ ap (λ y. (b, y)) f

values_one : (class : ℕ) (around : Around) (p q : Parts) → ArePaired p → ArePaired q
    → nonzeros p.inner ≡ nonzeros q.inner
    → SameValues p q ⊎ AreApart (values_of class around p) (values_of class around q)
values_one class around p q fp fq count =
    let edges : p.inner ≡ q.inner → OneOrApart {X = List ℤ × List ℤ} (p.row, p.column) (q.row, q.column) (edges_of class around (nonzeros p.inner) p.row p.column) (edges_of class around (nonzeros q.inner) q.row q.column) =
    λ e. elim (edges_apart class around (nonzeros p.inner) (nonzeros q.inner) p q fp fq count) [ inl f ↦ inl (pair_of p.row q.row p.column q.column f.0 f.1) | inr h ↦ inr h ] in
    elim (then_apart {Y = List ℤ × List ℤ} p.inner q.inner (p.row, p.column) (q.row, q.column) (values_events (inner_bins class around) 0 p.inner) (values_events (inner_bins class around) 0 q.inner)
    (edges_of class around (nonzeros p.inner) p.row p.column) (edges_of class around (nonzeros q.inner) q.row q.column)
    (values_apart (inner_bins class around) 0 p.inner q.inner (fp.inner ∙ sym fq.inner) count fp.inner_tens fq.inner_tens) (λ e. ap (values_events (inner_bins class around) 0) e) edges)
    [ inl e ↦ inl (e.0, ap (λ (z : List ℤ × List ℤ). z.0) e.1, ap (λ (z : List ℤ × List ℤ). z.1) e.1) | inr h ↦ inr h ]

values_same : (class : ℕ) (around : Around) (p q : Parts) → SameValues p q
    → values_of class around p ≡ values_of class around q
values_same class around p q e =
    ap (λ (i : List ℤ). values_events (inner_bins class around) 0 i ++ edges_of class around (nonzeros i) p.row p.column) e.0
    ∙ ap (λ (r : List ℤ). values_events (inner_bins class around) 0 q.inner ++ edges_of class around (nonzeros q.inner) r p.column) e.1
    ∙ ap (λ (c : List ℤ). values_events (inner_bins class around) 0 q.inner ++ edges_of class around (nonzeros q.inner) q.row c) e.2

residue_apart : (class : ℕ) (around : Around) (x y : ℤ) → category_of x ≤ 16 → category_of y ≤ 16
    → OneOrApart x y (dc_events class around x) (dc_events class around y)
unfolding dc_events
residue_apart class around x y sx sy = value_apart _ 0 16 x y (omega arith) (omega arith) sx sy

rest_one : (class : ℕ) (around : Around) (p q : Parts) → ArePaired p → ArePaired q
    → nonzeros p.inner ≡ nonzeros q.inner →
    (SameValues p q × (p.residue ≡ q.residue)) ⊎ AreApart (values_of class around p ++ dc_events class around p.residue) (values_of class around q ++ dc_events class around q.residue)
rest_one class around p q fp fq count =
    elim (values_one class around p q fp fq count) [
      | inl e ↦ elim (residue_apart class around p.residue q.residue fp.residue fq.residue) [
        | inl f ↦ inl (e, f)
        | inr h ↦ inr (subst (λ (zs : List (ℕ × Bool)). AreApart (values_of class around p ++ dc_events class around p.residue) (zs ++ dc_events class around q.residue)) (values_same class around p q e) (apart_after (values_of class around p) _ _ h))
      ]
      | inr h ↦ inr (apart_more (values_of class around p) (values_of class around q) _ _ h)
    ]

pub count_one : (class m n k : ℕ) → n < 64 → k < 64
    → OneOrApart n k (inner_count_events class m n) (inner_count_events class m k)
unfolding inner_count_events
count_one class m n k hn hk = count_apart _ 6 n k hn hk

pub parts_one : (class : ℕ) (around : Around) (p q : Parts) → ArePaired p → ArePaired q
    → (SameValues p q × (p.residue ≡ q.residue)) ⊎ AreApart (parts_events class around p) (parts_events class around q)
parts_one class around p q fp fq =
    let hp = nonzeros_le p.inner in
    let hq = nonzeros_le q.inner in
    elim (count_one class (guess around) (nonzeros p.inner) (nonzeros q.inner) (omega (arith, hp, fp.inner)) (omega (arith, hq, fq.inner))) [
      | inl e ↦ elim (rest_one class around p q fp fq e) [
        | inl f ↦ inl f
        | inr h ↦ inr (subst (λ (n : ℕ). AreApart (parts_events class around p) (inner_count_events class (guess around) n ++ (values_of class around q ++ dc_events class around q.residue))) e (apart_after (inner_count_events class (guess around) (nonzeros p.inner)) _ _ h))
      ]
      | inr h ↦ inr (apart_more (inner_count_events class (guess around) (nonzeros p.inner)) (inner_count_events class (guess around) (nonzeros q.inner)) _ _ h)
    ]

-- a position that stands in a list
is_in : ℕ → List ℕ → Bool
is_in p [] = false
is_in p (x ∷ xs) = (x == p) || is_in p xs

same_at : (positions : List ℕ) (a b : List ℤ) (p : ℕ) → map (value_at a) positions ≡ map (value_at b) positions
    → is_in p positions ≡ true → value_at a p ≡ value_at b p
unfolding is_in
same_at [] a b p e h = absurd (true≢false (sym h))
same_at (x ∷ xs) a b p e h = elim (or_cases (x == p) (is_in p xs) h) [
  | inl here ↦ let same : x ≡ p = eqb-true _ _ here in subst (λ (k : ℕ). value_at a k ≡ value_at b k) same (ap (λ l. get_or l 0 (pos 0)) e)
  | inr there ↦ same_at xs a b p (ap (drop 1) e) there
]

every : (p : ℕ) → p < 64
    → ((p == 0) || (is_in p inner_positions || (is_in p row_positions || is_in p column_positions))) ≡ true
unfolding is_in inner_positions
every p within = agree_below_at (λ p. (p == 0) || (is_in p inner_positions || (is_in p row_positions || is_in p column_positions))) (λ _. true) 64 p refl within

same_position : (a b : List ℤ) (p : ℕ) → p < 64 → values_in inner_positions a ≡ values_in inner_positions b
    → values_in row_positions a ≡ values_in row_positions b
    → values_in column_positions a ≡ values_in column_positions b → value_at a 0 ≡ value_at b 0 →
    value_at a p ≡ value_at b p
unfolding values_in
same_position a b p within i r c d = elim (or_cases _ _ (every p within)) [
  | inl e ↦ let z : p ≡ 0 = eqb-true _ _ e in subst (λ (k : ℕ). value_at a k ≡ value_at b k) (sym z) d
  | inr e ↦ elim (or_cases _ _ e) [
    | inl f ↦ same_at inner_positions a b p i f
    | inr f ↦ elim (or_cases _ _ f) [ inl g ↦ same_at row_positions a b p r g | inr g ↦ same_at column_positions a b p c g ]
  ]
]

same_block : (a b : List ℤ) → IsBlock a → IsBlock b → values_in inner_positions a ≡ values_in inner_positions b
    → values_in row_positions a ≡ values_in row_positions b
    → values_in column_positions a ≡ values_in column_positions b → value_at a 0 ≡ value_at b 0 → a ≡ b
same_block a b fa fb i r c d = ext_get_or (pos 0) a b (fa.count ∙ sym fb.count) (λ p below. same_position a b p (rw fa.count at below) i r c d)

-- predictions
pub difference : (x y : ℤ) → IsDc x → IsDc y → unsigned_abs (x -ℤ y) < 65536
difference (pos a) (pos b) d p = omega (arith, ints)
difference (pos a) (negsuc b) d p = omega (arith, ints)
difference (negsuc a) (pos b) d p = omega (arith, ints)
difference (negsuc a) (negsuc b) d p = omega (arith, ints)

back : (x y p : ℤ) → x -ℤ p ≡ y -ℤ p → x ≡ y
back x y p e = omega (arith, ints, e)

length_in : (positions : List ℕ) (block : List ℤ) → length (values_in positions block) ≡ length positions
unfolding values_in
length_in positions block = simp length-map refl

inner_long : length inner_positions ≡ 49
unfolding inner_positions
inner_long = refl

pub inner_ok : are_positions inner_positions ≡ true
unfolding inner_positions
inner_ok = refl

unfoldable pub parts_with : List ℤ → ℤ → Parts
parts_with block r = record { inner = values_in inner_positions block; row = values_in row_positions block; column = values_in column_positions block; residue = r }

unfoldable pub parts_of : List ℤ → ℤ → Parts
parts_of block p = parts_with block (value_at block 0 -ℤ p)

pub few : (block : List ℤ) → inner_count block ≤ 49
few block = let h = nonzeros_le (values_in inner_positions block) in let l = length_in inner_positions block in let k = inner_long in omega (arith, h, l, k)

pub first_dc : (block : List ℤ) → IsBlock block → IsDc (value_at block 0)
first_dc block is = is.coefficients 0 (omega arith)

pub paired_with : (block : List ℤ) (r : ℤ) → IsBlock block → category_of r ≤ 16 → ArePaired (parts_with block r)
unfolding parts_with
paired_with block r is small = record {
  inner = length_in inner_positions block ∙ inner_long;
  row = length_in row_positions block;
  column = length_in column_positions block;
  inner_tens = tens inner_positions block is inner_ok;
  row_tens = tens row_positions block is refl;
  column_tens = tens column_positions block is refl;
  residue = small;
}

pub paired : (block : List ℤ) (p : ℤ) → IsBlock block → IsDc p → ArePaired (parts_of block p)
unfolding parts_of
paired block p is dc = paired_with block (value_at block 0 -ℤ p) is (category_at_most 16 (unsigned_abs (value_at block 0 -ℤ p)) (difference (value_at block 0) p (first_dc block is) dc))

pub block_apart : (class : ℕ) (around : Around) (a b : List ℤ) → IsBlock a → IsBlock b → IsDc (prediction around)
    → OneOrApart a b (block_events class around a) (block_events class around b)
unfolding block_events ac_events parts_of parts_with
block_apart class around a b fa fb dc =
    elim (parts_one class around (parts_of a (prediction around)) (parts_of b (prediction around)) (paired a (prediction around) fa dc) (paired b (prediction around) fb dc))
    [ inl e ↦ inl (same_block a b fa fb e.0.0 e.0.1 e.0.2 (back _ _ (prediction around) e.1)) | inr h ↦ inr h ]
