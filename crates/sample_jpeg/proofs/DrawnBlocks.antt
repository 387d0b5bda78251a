-- How large the coefficients of drawn blocks are.
use Rattle.std.proofs.Common.{◌≡◌, ℕ, zero, suc, ◌+◌, ◌%◌, ◌<◌, ◌≤◌, Bool, true, false, ◌==◌, if◌then◌else◌, List, [], ◌∷◌, length, ℤ, ◌-ℤ◌, unsigned_abs, refl, sym, ap, subst, ◌∙◌, arith, inl, inr}
use Rattle.std.specs.Prelude.{drop, map, pos, replicate, slice_index, slice_index_or, slice_set}
use Rattle.std.proofs.lemmas.Bool.{cases_eq, cases_lt, eqb-true, false_from_ne_true, false≢true}
use Rattle.std.proofs.lemmas.Int.{ints}
use Rattle.std.proofs.lemmas.List.{get_or_past, get_or-set_other, get_or-set_same, length-set}
use Rattle.std.proofs.Math.Nat.{mod-lt}
use Rattle.coef_block.specs.Block.{IsBlock, IsCoefficient}
use Rattle.coef_block.specs.Zigzag.{zigzag}
use Rattle.scan_spec.specs.BlockBits.{ac_values, coefficient_at}
use Rattle.sample_jpeg.specs.Draws.{draw, state_after}
use Rattle.sample_jpeg.specs.DrawnMcus.{block_of_dc, drawn_ac, drawn_block, drawn_dc, drawn_index, set_once, set_times}
use Rattle.sample_jpeg.proofs.SampleTexts.{AreSmall}

-- 64 coefficients, the DC within 1000 of 0 and each other within 15
pub record IsDrawn (block : List ℤ) : Type 0 where
  pub count : length block ≡ 64
  pub dc : unsigned_abs (coefficient_at block 0) ≤ 1000
  pub acs : (place : ℕ) → 0 < place → unsigned_abs (coefficient_at block place) ≤ 15

-- ---- the numbers that are drawn

within : (n most : ℕ) → n ≤ most + most → unsigned_abs (pos n -ℤ pos most) ≤ most
within n most h = grind (arith, ints)

pub dc_within : (state : ℕ) → unsigned_abs (drawn_dc state) ≤ 1000
dc_within state =
    let below : draw state % 2001 < 2001 = mod-lt (draw state) (omega arith) in
    within (draw state % 2001) 1000 (omega (arith, below))

pub ac_within : (state : ℕ) → unsigned_abs (drawn_ac state) ≤ 15
ac_within state =
    let below : draw state % 31 < 31 = mod-lt (draw state) (omega arith) in
    within (draw state % 31) 15 (omega (arith, below))

-- ---- natural positions of AC coefficients

-- whether each of these is a position after the first
abbrev are_later : List ℕ → Bool
are_later [] = true
are_later (p ∷ ps) = if p == 0 then false else are_later ps

first_later : (t rest : Bool) → (if t then false else rest) ≡ true → (t ≡ false) × (rest ≡ true)
first_later true rest e = absurd (false≢true e)
first_later false rest e = (refl, e)

some_place : (place : ℕ) → (place == 0) ≡ false → 0 < place
some_place zero e = absurd (false≢true (sym e))
some_place (suc place) e = omega arith

later_at : (l : List ℕ) (i : ℕ) → are_later l ≡ true → i < length l → 0 < slice_index l i
later_at [] i all below = absurd (omega (arith, below))
later_at (p ∷ ps) zero all below = some_place p (first_later (p == 0) (are_later ps) all).0
later_at (p ∷ ps) (suc i) all below = later_at ps i (first_later (p == 0) (are_later ps) all).1 (omega (arith, below))

position_later : (index : ℕ) → 0 < index → index < 64 → 0 < slice_index zigzag index
position_later zero some below = absurd (omega (arith, some))
position_later (suc i) some below = later_at (drop 1 zigzag) i refl (omega (arith, below))

-- ---- a block

-- zeros, and a DC
coefficient_of_zeros : (n place : ℕ) → slice_index_or (replicate n (pos 0)) place (pos 0) ≡ pos 0
coefficient_of_zeros zero place = refl
coefficient_of_zeros (suc n) zero = refl
coefficient_of_zeros (suc n) (suc place) = coefficient_of_zeros n place

of_dc : (dc : ℤ) → unsigned_abs dc ≤ 1000 → IsDrawn (block_of_dc dc)
of_dc dc small = record {
  count = refl;
  dc = small;
  acs = λ place some.
      let e = get_or-set_other (replicate 64 (pos 0)) 0 place dc (pos 0) (λ z. omega (arith, z, some)) in
      let f = e ∙ coefficient_of_zeros 64 place in
      subst (λ (v : ℤ). unsigned_abs v ≤ 15) (sym f) (omega arith);
}

-- an AC coefficient more
set_on : (block : List ℤ) (position : ℕ) (value : ℤ) → 0 < position → unsigned_abs value ≤ 15 → IsDrawn block
    → IsDrawn (slice_set block position value)
set_on block position value some small is = record {
  count = length-set block position value ∙ is.count;
  dc = subst (λ (v : ℤ). unsigned_abs v ≤ 1000)
      (sym (get_or-set_other block position 0 value (pos 0) (λ z. omega (arith, z, some)))) is.dc;
  acs = λ place later. elim (cases_eq place position) [
    | inl same ↦ elim (cases_lt position (length block)) [
      | inl within ↦
          subst (λ (v : ℤ). unsigned_abs v ≤ 15)
          (sym (ap (λ p. slice_index_or (slice_set block position value) p (pos 0)) same ∙ get_or-set_same block position value (pos 0) within)) small
      | inr past ↦
          subst (λ (v : ℤ). unsigned_abs v ≤ 15)
          (sym (get_or_past (slice_set block position value) place (pos 0) (omega (arith, past, same, length-set block position value)))) (omega arith)
    ]
    | inr other ↦
        subst (λ (v : ℤ). unsigned_abs v ≤ 15) (sym (get_or-set_other block position place value (pos 0) other)) (is.acs place later)
  ];
}

set_drawn : (block : List ℤ) (state : ℕ) → IsDrawn block → IsDrawn (set_once block state)
set_drawn block state is =
    let index = drawn_index state in
    let drawn : draw state % 63 < 63 = mod-lt (draw state) (omega arith) in
    let below : index < 64 = omega (arith, drawn) in
    set_on block (slice_index zigzag index) (drawn_ac (state_after state)) (position_later index (omega arith) below)
    (ac_within (state_after state)) is

times_drawn : (n : ℕ) (block : List ℤ) (state : ℕ) → IsDrawn block → IsDrawn (set_times n block state).value
times_drawn zero block state is = is
times_drawn (suc n) block state is = times_drawn n (set_once block state) (state_after (state_after state)) (set_drawn block state is)

pub block_drawn : (state : ℕ) → IsDrawn (drawn_block state).value
block_drawn state =
    times_drawn (draw (state_after state) % 8) (block_of_dc (drawn_dc state)) (state_after (state_after state))
    (of_dc (drawn_dc state) (dc_within state))

-- ---- what is known of it

pub drawn_is_block : (block : List ℤ) → IsDrawn block → IsBlock block
drawn_is_block block is = record { count = is.count; coefficients = coefficients }
  where
    coefficients : (position : ℕ) → position < 64 → IsCoefficient position (slice_index_or block position (pos 0))
    coefficients zero below = omega (arith, is.dc)
    coefficients (suc place) below =
        let other : (suc place == 0) ≡ false = false_from_ne_true (suc place == 0) (λ z. let h = eqb-true (suc place) 0 z in omega (arith, h)) in
        let value = slice_index_or block (suc place) (pos 0) in
        subst (λ (t : Bool). unsigned_abs value ≤ (if t then 32767 else 1023)) (sym other)
        (let h = is.acs (suc place) (omega arith) in omega (arith, h))

acs_at : (block : List ℤ) (l : List ℕ) → IsDrawn block → are_later l ≡ true → AreSmall (map (coefficient_at block) l)
acs_at block [] is e = tt
acs_at block (i ∷ l) is e =
    let a = first_later (i == 0) (are_later l) e in
    (is.acs i (some_place i a.0), acs_at block l is a.1)

pub drawn_acs : (block : List ℤ) → IsDrawn block → AreSmall (ac_values block)
unfolding ac_values
drawn_acs block is = acs_at block (drop 1 zigzag) is refl
