-- Values placed at positions of a block stand there, and a block of coefficients is a block.
use Rattle.std.proofs.Common.{◌≡◌, ◌≢◌, ℕ, ◌<◌, ◌≤◌, ◌^◌, Bool, true, false, true≢false, List, [], ◌∷◌, refl, ap, ap₂, ◌∙◌, sym, arith, length, set, get_or, replicate, ℤ, pos, unsigned_abs, suc, zero}
use Rattle.std.specs.Prelude.{◌==◌, ◌&&◌, ◌||◌, not, nat_lt, if◌then◌else◌}
use Rattle.std.specs.List.{AllByRecursion}
use Rattle.std.proofs.Math.Nat.{pow-le-pow_right}
use Rattle.std.proofs.lemmas.Bool.{and_parts, eq-eqb, ltb-true, not-true}
use Rattle.std.proofs.lemmas.Bool.Decides.{nat_tests}
use Rattle.std.proofs.lemmas.List.{get_or-set_same, get_or-set_other, get_or-replicate, length-set}
use Rattle.coef_block.specs.Block.{IsBlock, IsCoefficient, IsDc}
use Rattle.block_spec.specs.Values.{category_of}
use Rattle.block_spec.specs.Around.{value_at, values_in, inner_positions, row_positions, column_positions}
use Rattle.block_spec.proofs.BlocksOnce.{are_positions, inner_ok}
use Rattle.block_spec.proofs.CategoryBits.{category_below}
use Rattle.block_spec.proofs.ValuesApart.{IsTen}
use Rattle.block_spec.specs.AskedBlocks.{placed, block_with}

-- a position that stands among others
unfoldable is_among : ℕ → List ℕ → Bool
is_among p [] = false
is_among p (q ∷ qs) = (q == p) || is_among p qs

-- each position once
unfoldable are_once : List ℕ → Bool
are_once [] = true
are_once (p ∷ ps) = not (is_among p ps) && are_once ps

-- none of some positions stands among others
unfoldable are_others : List ℕ → List ℕ → Bool
are_others [] ps = true
are_others (q ∷ qs) ps = not (is_among q ps) && are_others qs ps

other_first : (q p : ℕ) (ps : List ℕ) → ((p == q) || is_among q ps) ≡ false
    → (q ≢ p) × (is_among q ps ≡ false)
other_first q p ps h = (
  λ e. true≢false (sym (ap (λ (t : Bool). t || is_among q ps) (eq-eqb p q (sym e))) ∙ h),
  rest (p == q) (is_among q ps) h,
)
  where
    rest : (a b : Bool) → (a || b) ≡ false → b ≡ false
    rest true b e = absurd (true≢false e)
    rest false b e = e

value_stays : (ps : List ℕ) (xs b : List ℤ) (q : ℕ) → is_among q ps ≡ false
    → value_at (placed ps xs b) q ≡ value_at b q
unfolding placed is_among
value_stays [] xs b q h = refl
value_stays (p ∷ ps) [] b q h = refl
value_stays (p ∷ ps) (x ∷ xs) b q h =
    let apart = other_first q p ps h in
    value_stays ps xs (set b p x) q apart.1 ∙ get_or-set_other b p q x (pos 0) apart.0

values_stay : (qs ps : List ℕ) (xs b : List ℤ) → are_others qs ps ≡ true
    → values_in qs (placed ps xs b) ≡ values_in qs b
unfolding are_others values_in
values_stay [] ps xs b apart = refl
values_stay (q ∷ qs) ps xs b apart =
    let parts = and_parts (not (is_among q ps)) (are_others qs ps) apart in
    ap₂ (λ (y : ℤ) (ys : List ℤ). y ∷ ys) (value_stays ps xs b q (not-true (is_among q ps) parts.0))
    (values_stay qs ps xs b parts.1)

below_first : (p : ℕ) (ps : List ℕ) → are_positions (p ∷ ps) ≡ true
    → (0 < p) × (p < 64) × (are_positions ps ≡ true)
below_first p ps h =
    let outer = and_parts (nat_lt 0 p && nat_lt p 64) (are_positions ps) h in
    let inner = and_parts (nat_lt 0 p) (nat_lt p 64) outer.0 in
    (ltb-true 0 p inner.0, ltb-true p 64 inner.1, outer.1)

values_stand : (ps : List ℕ) (xs b : List ℤ) → are_once ps ≡ true → are_positions ps ≡ true
    → length xs ≡ length ps → length b ≡ 64 → values_in ps (placed ps xs b) ≡ xs
unfolding placed are_once values_in
values_stand [] [] b once in_block long wide = refl
values_stand [] (x ∷ xs) b once in_block long wide = absurd (omega (arith, long))
values_stand (p ∷ ps) [] b once in_block long wide = absurd (omega (arith, long))
values_stand (p ∷ ps) (x ∷ xs) b once in_block long wide =
    let parts = and_parts (not (is_among p ps)) (are_once ps) once in
    let at = below_first p ps in_block in
    let within : p < length b = omega (arith, at.1, wide) in
    let here : value_at (placed ps xs (set b p x)) p ≡ x =
    value_stays ps xs (set b p x) p (not-true (is_among p ps) parts.0)
    ∙ get_or-set_same b p x (pos 0) within in
    let less : length xs ≡ length ps = omega (arith, long) in
    ap₂ (λ (y : ℤ) (ys : List ℤ). y ∷ ys) here
    (values_stand ps xs (set b p x) parts.1 at.2 less (length-set b p x ∙ wide))

placed_length : (ps : List ℕ) (xs b : List ℤ) → length (placed ps xs b) ≡ length b
unfolding placed
placed_length [] xs b = refl
placed_length (p ∷ ps) [] b = refl
placed_length (p ∷ ps) (x ∷ xs) b = placed_length ps xs (set b p x) ∙ length-set b p x

-- the positions of a block's parts
inner_once : are_once inner_positions ≡ true
unfolding are_once is_among inner_positions
inner_once = refl

edges_once : (are_once row_positions ≡ true) × (are_once column_positions ≡ true)
unfolding are_once is_among
edges_once = (refl, refl)

inner_apart : (are_others inner_positions row_positions ≡ true)
    × (are_others inner_positions column_positions ≡ true)
unfolding are_others is_among inner_positions
inner_apart = (refl, refl)

edges_apart : are_others row_positions column_positions ≡ true
unfolding are_others is_among
edges_apart = refl

dc_apart : (is_among 0 inner_positions ≡ false) × (is_among 0 row_positions ≡ false)
    × (is_among 0 column_positions ≡ false)
unfolding is_among inner_positions
dc_apart = (refl, refl, refl)

inner_many : length inner_positions ≡ 49
unfolding inner_positions
inner_many = refl

-- a block has the parts that were placed in it
pub record HasParts (block : List ℤ) (dc : ℤ) (inner row column : List ℤ) : Type 0 where
  pub dc_is : value_at block 0 ≡ dc
  pub inner_is : values_in inner_positions block ≡ inner
  pub row_is : values_in row_positions block ≡ row
  pub column_is : values_in column_positions block ≡ column

pub block_has : (dc : ℤ) (inner row column : List ℤ) → length inner ≡ 49 → length row ≡ 7
    → length column ≡ 7 → HasParts (block_with dc inner row column) dc inner row column
unfolding block_with
block_has dc inner row column li lr lc =
    let first : List ℤ = dc ∷ replicate 63 (pos 0) in
    let second : List ℤ = placed inner_positions inner first in
    let third : List ℤ = placed row_positions row second in
    let wide : length second ≡ 64 = placed_length inner_positions inner first in
    let wider : length third ≡ 64 = placed_length row_positions row second ∙ wide in
    record {
      dc_is = value_stays column_positions column third 0 dc_apart.2
          ∙ value_stays row_positions row second 0 dc_apart.1
          ∙ value_stays inner_positions inner first 0 dc_apart.0;
      inner_is = values_stay inner_positions column_positions column third inner_apart.1
          ∙ values_stay inner_positions row_positions row second inner_apart.0
          ∙ values_stand inner_positions inner first inner_once inner_ok (li ∙ sym inner_many) refl;
      row_is = values_stay row_positions column_positions column third edges_apart
          ∙ values_stand row_positions row second edges_once.0 refl lr wide;
      column_is = values_stand column_positions column third edges_once.1 refl lc wider;
    }

ten_limit : (p : ℕ) (x : ℤ) → IsTen x → IsCoefficient p x
ten_limit p x ten =
    let below = category_below (unsigned_abs x) in
    let up : 2 ^ category_of x ≤ 2 ^ 10 = pow-le-pow_right {n = 2} (omega arith) ten in
    elim (p == 0) as (λ t. unsigned_abs x ≤ (if t then 32767 else 1023))
    [ true ↦ omega (arith, below, up) | false ↦ omega (arith, below, up) ]

set_ten : (b : List ℤ) (p : ℕ) (x : ℤ) → IsBlock b → p < 64 → IsTen x → IsBlock (set b p x)
set_ten b p x is at ten = record {
  count = length-set b p x ∙ is.count;
  coefficients = λ position within. elim (position == p) as (λ t. position == p ≡ t
      → IsCoefficient position (get_or (set b p x) position (pos 0))) [
        | true ↦ λ e.
            let same : position ≡ p = grind (arith, nat_tests) in
            let here = get_or-set_same b p x (pos 0) (omega (arith, at, is.count)) in
            rw same (rw here (ten_limit p x ten))
        | false ↦ λ e.
            let other : position ≢ p = grind (arith, nat_tests) in
            rw (get_or-set_other b p position x (pos 0) other) (is.coefficients position within)
      ] refl;
}

placed_block : (ps : List ℕ) (xs b : List ℤ) → are_positions ps ≡ true → AllByRecursion IsTen xs
    → IsBlock b → IsBlock (placed ps xs b)
unfolding placed
placed_block [] xs b in_block tens is = is
placed_block (p ∷ ps) [] b in_block tens is = is
placed_block (p ∷ ps) (x ∷ xs) b in_block tens is =
    let at = below_first p ps in_block in
    placed_block ps xs (set b p x) at.2 tens.1 (set_ten b p x is at.1 tens.0)

dc_block : (dc : ℤ) → IsDc dc → IsBlock (dc ∷ replicate 63 (pos 0))
dc_block dc fits = record {
  count = refl;
  coefficients = λ position within. at position within;
}
  where
    at : (position : ℕ) → position < 64
        → IsCoefficient position (get_or (dc ∷ replicate 63 (pos 0)) position (pos 0))
    at zero within = fits
    at (suc position) within =
        let zeros = get_or-replicate 63 position (pos 0) (pos 0) (omega (arith, within)) in
        rw zeros (omega arith)

-- coefficients of ten bits and a DC make a block
pub block_is : (dc : ℤ) (inner row column : List ℤ) → IsDc dc → AllByRecursion IsTen inner
    → AllByRecursion IsTen row → AllByRecursion IsTen column
    → IsBlock (block_with dc inner row column)
unfolding block_with
block_is dc inner row column fits ti tr tc =
    placed_block column_positions column _ refl tc
    (placed_block row_positions row _ refl tr
    (placed_block inner_positions inner _ inner_ok ti (dc_block dc fits)))
