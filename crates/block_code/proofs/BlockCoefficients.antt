-- The ranges of a block's coefficients, and a coefficient put into a block.
use Rattle.std.proofs.Common.{◌≡◌, ◌≢◌, ℕ, zero, suc, ◌<◌, ◌≤◌, ◌^◌, List, arith, refl, ap, ◌∙◌, sym, ℤ, pos, set, get_or, replicate, FitsSigned, w16, w32, true, false}
use Rattle.std.specs.Prelude.{Some, slice_get, unsigned_abs, if◌then◌else◌, ◌==◌, ◌+ℤ◌, ◌-ℤ◌, negsuc}
use Rattle.std.proofs.Math.Nat.{pow-le-pow_right}
use Rattle.std.proofs.lemmas.Bool.Decides.{nat_tests}
use Rattle.std.proofs.lemmas.Int.{fits_signed_from_abs, ints}
use Rattle.std.proofs.lemmas.List.{get_or-set_same, get_or-set_other, get_or-replicate, length-set, set-get_or}
use Rattle.std.proofs.lemmas.Option.{get_or_from_slice_get}
use Rattle.coef_block.specs.Block.{IsBlock, IsCoefficient, IsDc}
use Rattle.block_spec.specs.Values.{category_of}
use Rattle.block_spec.specs.Around.{value_at}
use Rattle.block_spec.proofs.CategoryBits.{category_at_most, category_below}
use Rattle.block_code.specs.BandPositions.{IsAcPosition}
use Rattle.block_code.specs.ValueRanges.{IsAc, IsResidue}

pub got : (b : List ℤ) (p : ℕ) (x : ℤ) → slice_get b p ≡ Some x → value_at b p ≡ x
got b p x e = get_or_from_slice_get b p x (pos 0) e

-- a coefficient of ten bits
pub abs_ten : (x : ℤ) → IsAc x → unsigned_abs x ≤ 1023
abs_ten x ten =
    let below = category_below (unsigned_abs x) in
    let up : 2 ^ category_of x ≤ 2 ^ 10 = pow-le-pow_right {n = 2} (omega arith) ten in
    omega (arith, below, up)

pub ten_fits : (x : ℤ) → IsAc x → FitsSigned w16 x
ten_fits x ten = let h = abs_ten x ten in fits_signed_from_abs w16 x (omega (arith, h))

pub within_limit : (p n : ℕ) → n ≤ 1023 → n ≤ (if p == 0 then 32767 else 1023)
within_limit p n few = elim (p == 0) as (λ t. n ≤ (if t then 32767 else 1023)) [ true ↦ omega arith | false ↦ few ]

pub ten_of : (p : ℕ) (x : ℤ) → IsAcPosition p → IsCoefficient p x → IsAc x
ten_of zero x at is = absurd (omega (arith, at.0))
ten_of (suc p) x at is =
    let other : (suc p == 0) ≡ false = grind (arith, nat_tests) in
    let few : unsigned_abs x ≤ 1023 = rw other at is in
    category_at_most 10 (unsigned_abs x) (omega (arith, few))

pub abs_some : (x : ℤ) → x ≢ pos 0 → 0 < unsigned_abs x
abs_some (pos zero) some = absurd (some refl)
abs_some (pos (suc n)) some = omega arith
abs_some (negsuc n) some = omega arith

-- a zero put where a zero is
pub zero_again : (b : List ℤ) (p : ℕ) → value_at b p ≡ pos 0 → set b p (pos 0) ≡ b
zero_again b p e = ap (λ (x : ℤ). set b p x) (sym e) ∙ set-get_or b p (pos 0)

-- a coefficient put into a block leaves a block
pub set_coefficient : (b : List ℤ) (p : ℕ) (x : ℤ) → IsBlock b → IsAcPosition p → IsAc x → IsBlock (set b p x)
set_coefficient b p x is at ten = record {
  count = length-set b p x ∙ is.count;
  coefficients = λ position within. elim (position == p) as (λ t. position == p ≡ t → IsCoefficient position (get_or (set b p x) position (pos 0))) [
    | true ↦ λ e. let same : position ≡ p = grind (arith, nat_tests) in
        rw same (rw (get_or-set_same b p x (pos 0) (omega (arith, at.1, is.count))) (within_limit p (unsigned_abs x) (abs_ten x ten)))
    | false ↦ λ e. let other : position ≢ p = grind (arith, nat_tests) in
        rw (get_or-set_other b p position x (pos 0) other) (is.coefficients position within)
  ] refl;
}

pub set_dc : (b : List ℤ) (x : ℤ) → IsBlock b → IsDc x → IsBlock (set b 0 x)
set_dc b x is dc = record {
  count = length-set b 0 x ∙ is.count;
  coefficients = λ position within. elim (position == 0) as (λ t. position == 0 ≡ t → IsCoefficient position (get_or (set b 0 x) position (pos 0))) [
    | true ↦ λ e. let same : position ≡ 0 = grind (arith, nat_tests) in rw same (rw (get_or-set_same b 0 x (pos 0) (omega (arith, is.count))) dc)
    | false ↦ λ e. let other : position ≢ 0 = grind (arith, nat_tests) in
        rw (get_or-set_other b 0 position x (pos 0) other) (is.coefficients position within)
  ] refl;
}

pub zeros_are_a_block : IsBlock (replicate 64 (pos 0))
zeros_are_a_block = record {
  count = refl;
  coefficients = λ position within. rw (get_or-replicate 64 position (pos 0) (pos 0) within) (omega arith);
}

-- the difference of two DCs has sixteen bits
pub apart : (a b : ℤ) → IsDc a → IsDc b → unsigned_abs (a -ℤ b) < 2 ^ 16
apart a b ha hb = grind (arith, ints)

pub sixteen : (a b : ℤ) → IsDc a → IsDc b → IsResidue (a -ℤ b)
sixteen a b ha hb = category_at_most 16 (unsigned_abs (a -ℤ b)) (apart a b ha hb)

-- a residue of sixteen bits
pub residue_below : (x : ℤ) → category_of x ≤ 16 → unsigned_abs x ≤ 65535
residue_below x few =
    let below = category_below (unsigned_abs x) in
    let up : 2 ^ category_of x ≤ 2 ^ 16 = pow-le-pow_right {n = 2} (omega arith) few in
    omega (arith, below, up)

pub sum_fits : (prediction residue : ℤ) → IsDc prediction → unsigned_abs residue ≤ 65535 → FitsSigned w32 (prediction +ℤ residue)
sum_fits prediction residue dc few = fits_signed_from_abs w32 (prediction +ℤ residue) (below prediction residue dc few)
  where
    below : (a b : ℤ) → IsDc a → unsigned_abs b ≤ 65535 → unsigned_abs (a +ℤ b) < 2 ^ 31
    below a b ha hb = grind (arith, ints)

pub residue_back : (prediction residue : ℤ) → prediction +ℤ residue -ℤ prediction ≡ residue
residue_back prediction residue = grind (arith, ints)
