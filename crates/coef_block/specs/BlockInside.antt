-- View: how a block keeps its coefficients, with a mask of those that aren't 0 (own).
use Rattle.std.specs.Prelude.{◌≡◌, ℕ, List, map, ℤ}
use lib.Lanes.{mask_l}
use Rattle.coef_block.specs.Block.{IsBlock}
use Rattle.coef_block.specs.Nonzeros.{is_nonzero, zigzag_indexes}
use Rattle.coef_block.specs.declared.block.Block.TheInside.{Inside}

-- the mask of a block's coefficients: bit k is that of zigzag index k
unfoldable pub mask_of : List ℤ → ℕ
mask_of block = mask_l (map (is_nonzero block) zigzag_indexes)

-- the coefficients
abbrev pub values_of : Inside → List ℤ
values_of b = b.values

-- each is within its limit, and the mask is theirs
pub record IsMasked (b : Inside) : Type 0 where
  pub block : IsBlock b.values
  pub mask : b.mask ≡ mask_of b.values

-- what is kept of coefficients
abbrev pub inside_of : List ℤ → Inside
inside_of values = record { values = values; mask = mask_of values }
