-- The mask of a block's coefficients.
use Rattle.std.proofs.Common.{◌≡◌, ◌≢◌, ℕ, zero, suc, ◌^◌, ◌<◌, ◌==◌, ◌&&◌, Bool, true, false, not, List, length, map, set, slice_index, ℤ, pos, unsigned_abs, ap, subst, sym, refl, ◌∙◌, arith, inl, inr, length-set, get_or-set_same, get_or-set_other}
use Rattle.std.specs.Prelude.{bit_and, count_ones, min}
use Rattle.std.specs.Int.{bit_at}
use Rattle.std.specs.List.{count_by, range_with_len}
use lib.Lanes.{mask_l}
use Rattle.std.proofs.lemmas.Bool.{cases_eq}
use Rattle.std.proofs.lemmas.Bool.Decides.{nat_tests}
use Rattle.std.proofs.lemmas.List.FromFn.{get_or-map-range_with_len, length-map-range_with_len}
use Rattle.std.proofs.lemmas.Nat.{and_le_l}
use Rattle.std.proofs.lemmas.Nat.Bits.{bit_at_and, bit_at-lt, same_from_bits_below}
use Rattle.std.proofs.lemmas.Simd.{bit_mask_l, mask_l-lt, ones-mask_l}
use Rattle.coef_block.specs.Block.{IsBlock, IsCoefficient}
use Rattle.coef_block.specs.BlockInside.{mask_of}
use Rattle.coef_block.specs.Nonzeros.{is_nonzero, IsMask, zigzag_indexes, nonzeros_among}
use Rattle.coef_block.specs.Zigzag.{zigzag}
use Rattle.coef_block.proofs.Masks.{bit_of}
use Rattle.coef_block.proofs.Positions.{zigzag-apart}

-- the mask of a test of the indexes
mask_by : (ℕ → Bool) → ℕ
unfolding zigzag_indexes
mask_by test = mask_l (map test zigzag_indexes)

mask_by-lt : (test : ℕ → Bool) → mask_by test < 2 ^ 64
unfolding mask_by zigzag_indexes
mask_by-lt test =
    subst (λ (n : ℕ). mask_l (map test (range_with_len 0 64)) < 2 ^ n) (length-map-range_with_len test 0 64)
    (mask_l-lt (map test (range_with_len 0 64)))

bit_at-mask_by : (test : ℕ → Bool) (index : ℕ) → index < 64 → bit_at (mask_by test) index ≡ bit_of (test index)
unfolding mask_by zigzag_indexes
bit_at-mask_by test index within =
    bit_mask_l (map test (range_with_len 0 64)) index
    ∙ ap bit_of (get_or-map-range_with_len test 0 64 index index false within (omega arith))

-- a number with the bits of a test is its mask
mask_by-bits : (test : ℕ → Bool) (mask : ℕ) → mask < 2 ^ 64
    → ((index : ℕ) → index < 64 → bit_at mask index ≡ bit_of (test index)) → mask ≡ mask_by test
mask_by-bits test mask fits bits =
    same_from_bits_below 64 mask (mask_by test) fits (mask_by-lt test)
    (λ index within. bits index within ∙ sym (bit_at-mask_by test index within))

ones-mask_by : (test : ℕ → Bool) → count_ones (mask_by test) ≡ count_by test zigzag_indexes
unfolding mask_by
ones-mask_by test = ones-mask_l test zigzag_indexes

-- the mask of a block is one
pub IsMask-mask_of : (block : List ℤ) → IsMask (mask_of block) block
unfolding mask_of mask_by
IsMask-mask_of block = bit_at-mask_by (is_nonzero block)

pub mask_of-lt : (block : List ℤ) → mask_of block < 2 ^ 64
unfolding mask_of mask_by
mask_of-lt block = mask_by-lt (is_nonzero block)

-- and the only one
pub mask_of-IsMask : (mask : ℕ) (block : List ℤ) → mask < 2 ^ 64 → IsMask mask block → mask ≡ mask_of block
unfolding mask_of mask_by
mask_of-IsMask mask block fits is = mask_by-bits (is_nonzero block) mask fits is

-- the bits of both are those of what is in both
both : (a : ℕ) (b : Bool) → a < 2 → min (bit_of b) a ≡ bit_of ((a == 1) && b)
both zero true small = refl
both zero false small = refl
both (suc zero) true small = refl
both (suc zero) false small = refl
both (suc (suc a)) b small = absurd (omega arith)

-- a count of the coefficients that aren't 0 among indexes
pub ones_among : (mask indexes : ℕ) (block : List ℤ) → mask < 2 ^ 64 → IsMask mask block
    → count_ones (bit_and mask indexes) ≡ nonzeros_among indexes block
ones_among mask indexes block fits is =
    let test : ℕ → Bool = λ index. (bit_at indexes index == 1) && is_nonzero block index in
    let same : bit_and mask indexes ≡ mask_by test =
    mask_by-bits test (bit_and mask indexes) (omega (arith, and_le_l mask indexes))
    (λ index within. let bit = bit_at indexes index in
    bit_at_and mask indexes index ∙ ap (λ n. min n bit) (is index within)
    ∙ both bit (is_nonzero block index) (bit_at-lt indexes index)) in
    rw same (ones-mask_by test)

-- the bit of a value
abbrev value_bit : ℤ → ℕ
value_bit value = bit_of (not (unsigned_abs value == 0))

pub some_bit : (value : ℤ) → 0 < unsigned_abs value → value_bit value ≡ 1
some_bit value some = let test : (unsigned_abs value == 0) ≡ false = grind (arith, nat_tests) in rw test

-- a coefficient that is put at an index
module _ (block : List ℤ) (index : ℕ) (value : ℤ) (inside : slice_index zigzag index < length block) where
  here_is : bit_of (is_nonzero (set block (slice_index zigzag index) value) index) ≡ value_bit value
  here_is = ap value_bit (get_or-set_same block (slice_index zigzag index) value (pos 0) inside)

  others_are : (other : ℕ) → slice_index zigzag other ≢ slice_index zigzag index
      → bit_of (is_nonzero (set block (slice_index zigzag index) value) other) ≡ bit_of (is_nonzero block other)
  others_are other apart =
      ap value_bit (get_or-set_other block (slice_index zigzag index) (slice_index zigzag other) value (pos 0) apart)

-- with its bit written, the mask is again the block's
pub IsMask-put : (mask new : ℕ) (block : List ℤ) (index : ℕ) (value : ℤ) → slice_index zigzag index < length block
    → index < 64
    → IsMask mask block → bit_at new index ≡ value_bit value
    → ((other : ℕ) → other < 64 → other ≢ index → bit_at new other ≡ bit_at mask other)
    → IsMask new (set block (slice_index zigzag index) value)
IsMask-put mask new block index value inside within is here others other below =
    elim (cases_eq other index) [
      | inl e ↦ let put = set block (slice_index zigzag index) value in
          subst (λ (i : ℕ). bit_at new i ≡ bit_of (is_nonzero put i)) (sym e) (here ∙ sym (here_is block index value inside))
      | inr apart ↦ others other below apart ∙ is other below
          ∙ sym (others_are block index value inside other (λ e. apart (zigzag-apart other index below within e)))
    ]

-- a coefficient within its limit, put into a block, leaves a block
pub IsBlock-put : (block : List ℤ) (position : ℕ) (value : ℤ) → position < 64 → IsCoefficient position value → IsBlock block
    → IsBlock (set block position value)
IsBlock-put block position value within small is = record {
  count = length-set block position value ∙ is.count;
  coefficients = λ other below. elim (cases_eq other position) [
    | inl e ↦ rw e (rw (get_or-set_same block position value (pos 0) (omega (arith, is.count))) small)
    | inr apart ↦ rw (get_or-set_other block position other value (pos 0) apart) (is.coefficients other below)
  ];
}
