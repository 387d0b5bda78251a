-- Statement: which coefficients of a block aren't 0, as a number with a bit for each (own).
use Rattle.std.specs.Prelude.{◌≡◌, ℕ, ◌<◌, Bool, not, ◌&&◌, ◌==◌, if◌then◌else◌, List, slice_index, slice_index_or, ℤ, pos, unsigned_abs}
use Rattle.std.specs.Int.{bit_at}
use Rattle.std.specs.List.{count_by, range_with_len}
use Rattle.coef_block.specs.Zigzag.{zigzag}

-- whether the coefficient at a zigzag index isn't 0
abbrev pub is_nonzero : List ℤ → ℕ → Bool
is_nonzero block index =
    not (unsigned_abs (slice_index_or block (slice_index zigzag index) (pos 0)) == 0)

-- bit k of the mask, from the lowest, is 1 exactly if the coefficient at zigzag index k isn't 0
abbrev pub IsMask : ℕ → List ℤ → Type 0
IsMask mask block =
    (index : ℕ) → index < 64 → bit_at mask index ≡ (if is_nonzero block index then 1 else 0)

-- the zigzag indexes, from 0 to 63
unfoldable pub zigzag_indexes : List ℕ
zigzag_indexes = range_with_len 0 64

-- how many coefficients aren't 0 of those whose zigzag index has a 1 in `indexes`
abbrev pub nonzeros_among : ℕ → List ℤ → ℕ
nonzeros_among indexes block =
    count_by (λ index. (bit_at indexes index == 1) && is_nonzero block index) zigzag_indexes
