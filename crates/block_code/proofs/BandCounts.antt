-- How many coefficients of a band are not 0, counted by zigzag indexes.
use Rattle.std.proofs.Common.{◌≡◌, ℕ, ◌+◌, ◌≤◌, Bool, true, false, List, [], ◌∷◌, refl, ap, ◌∙◌, arith, map, cond}
use Rattle.std.specs.Prelude.{◌==◌, ◌&&◌, not, filter, fold, ℤ, if◌then◌else◌, slice_index}
use Rattle.std.specs.Int.{bit_at}
use Rattle.coef_block.specs.Nonzeros.{is_nonzero, nonzeros_among, zigzag_indexes}
use Rattle.coef_block.specs.Zigzag.{zigzag}
use Rattle.block_spec.specs.Around.{value_at, values_in}
use Rattle.block_spec.specs.Values.{is_zero, nonzeros}
use Rattle.block_spec.proofs.ValuesApart.{nonzeros_le}
use Rattle.block_code.specs.BandPositions.{IsBand, positions_of}
use Rattle.block_code.proofs.Placing.{long_in}

abbrev has : ℕ → ℕ → Bool
has indexes index = bit_at indexes index == 1

abbrev at_indexes : ℕ → List ℕ → List ℕ
at_indexes indexes ks = map (slice_index zigzag) (filter (has indexes) ks)

turned : (b : Bool) (n : ℕ) → cond (not b) 1 0 + n ≡ (if b then 0 else 1) + n
turned true n = refl
turned false n = refl

one_index : (indexes k : ℕ) (ks : List ℕ) (block : List ℤ) →
    cond (has indexes k && is_nonzero block k) 1 0 + nonzeros (map (value_at block) (at_indexes indexes ks)) ≡ nonzeros (map (value_at block) (at_indexes indexes (k ∷ ks)))
one_index indexes k ks block =
    let rest = nonzeros (map (value_at block) (at_indexes indexes ks)) in
    elim (has indexes k) as (λ t. cond (t && is_nonzero block k) 1 0 + nonzeros (map (value_at block) (at_indexes indexes ks)) ≡ nonzeros (map (value_at block) (map (slice_index zigzag) (cond t (k ∷ filter (has indexes) ks) (filter (has indexes) ks))))) [
      | true ↦ turned (is_zero (value_at block (slice_index zigzag k))) rest
      | false ↦ omega arith
    ]

counted_from : (indexes start : ℕ) (ks : List ℕ) (block : List ℤ) →
    fold (λ a k. a + cond (has indexes k && is_nonzero block k) 1 0) start ks ≡ start + nonzeros (map (value_at block) (at_indexes indexes ks))
counted_from indexes start [] block = omega arith
counted_from indexes start (k ∷ ks) block =
    let rest = counted_from indexes (start + cond (has indexes k && is_nonzero block k) 1 0) ks block in
    let one = one_index indexes k ks block in
    omega (arith, rest, one)

-- the coefficients that are counted are those at the positions
pub among_are : (indexes : ℕ) (positions : List ℕ) (block : List ℤ) → positions_of indexes ≡ positions → nonzeros_among indexes block ≡ nonzeros (values_in positions block)
unfolding values_in positions_of
among_are indexes positions block e =
    let counted = counted_from indexes 0 zigzag_indexes block in
    let all : nonzeros_among indexes block ≡ nonzeros (values_in (positions_of indexes) block) = omega (arith, counted) in
    all ∙ ap (λ (ps : List ℕ). nonzeros (values_in ps block)) e

-- no more than the band has places
pub among_few : (positions : List ℕ) (count : ℕ) (block : List ℤ) → IsBand positions count → nonzeros (values_in positions block) ≤ count
among_few positions count block is =
    let h = nonzeros_le (values_in positions block) in
    let l = long_in positions block in
    omega (arith, h, l, is.long)
