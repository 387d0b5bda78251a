-- Steps: the natural positions of a band's coefficients, and blocks that agree at positions (own).
use Rattle.std.specs.Prelude.{◌≡◌, ℕ, ◌<◌, ◌==◌, ◌&&◌, ◌||◌, Bool, true, false, not, nat_lt, List, [], ◌∷◌, length, map, filter, ℤ, slice_index}
use Rattle.std.specs.Int.{bit_at}
use Rattle.coef_block.specs.Nonzeros.{zigzag_indexes}
use Rattle.coef_block.specs.Zigzag.{zigzag}
use Rattle.block_spec.specs.Around.{value_at, values_in, inner_positions, row_positions, column_positions}

-- the natural position of an AC coefficient (T.81 A.3.4)
abbrev pub IsAcPosition : ℕ → Type 0
IsAcPosition position = (0 < position) × (position < 64)

-- whether a position is one of these (own)
unfoldable pub is_among : ℕ → List ℕ → Bool
is_among position [] = false
is_among position (p ∷ ps) = (p == position) || is_among position ps

-- whether these are positions of a block, each there once (own)
unfoldable pub are_once : List ℕ → Bool
are_once [] = true
are_once (p ∷ ps) = not (is_among p ps) && (nat_lt p 64 && are_once ps)

-- the positions of a band that has so many coefficients, each there once (own)
pub record IsBand (positions : List ℕ) (count : ℕ) : Type 0 where
  pub long : length positions ≡ count
  pub once : are_once positions ≡ true

-- the natural positions at the zigzag indexes at which a number has the bit 1 (own)
unfoldable pub positions_of : ℕ → List ℕ
positions_of indexes =
    map (slice_index zigzag) (filter (λ index. bit_at indexes index == 1) zigzag_indexes)

-- both blocks have the same coefficients at all other positions (own)
abbrev pub AreSameElsewhere : List ℕ → List ℤ → List ℤ → Type 0
AreSameElsewhere positions old new = (position : ℕ) → is_among position positions ≡ false
    → value_at new position ≡ value_at old position

-- both blocks have the same AC coefficients (own)
pub record HaveSameAcs (a : List ℤ) (b : List ℤ) : Type 0 where
  pub inner : values_in inner_positions a ≡ values_in inner_positions b
  pub row : values_in row_positions a ≡ values_in row_positions b
  pub column : values_in column_positions a ≡ values_in column_positions b
