-- Rows: blocks that bytes give, worked by hand (docs/FORMAT.md, The stream).
use Rattle.std.specs.Prelude.{ℕ, List, [], ◌∷◌, ℤ, slice_set}
use Rattle.coef_block.specs.BlockRows.{no_block, extents_of}
use Rattle.block_spec.specs.Grid.{Grid}

-- one component, one MCU across (own)
abbrev pub one_across : Grid
one_across = record { across = 1; mcu = extents_of (1 ∷ []) (1 ∷ []) }

-- a block of zeros but for its DC (own)
abbrev pub dc_alone : ℤ → List ℤ
dc_alone dc = slice_set no_block 0 dc

-- thirteen zeros, of which the last is the first step of the DC's category (own)
abbrev pub zeros_stream : List ℕ
zeros_stream = 0 ∷ 0 ∷ 0 ∷ []

-- twelve zeros, a one and zeros (own)
abbrev pub dc_one_stream : List ℕ
dc_one_stream = 0 ∷ 0x08 ∷ 0 ∷ []

-- twelve zeros, the twelve ones of a category, and zeros (own)
abbrev pub dc_large_stream : List ℕ
dc_large_stream = 0 ∷ 0x0F ∷ 0xFF ∷ 0 ∷ 0 ∷ 0 ∷ []

-- twelve zeros, sixteen ones and zeros (own): a DC of 32768
abbrev pub dc_outside_stream : List ℕ
dc_outside_stream = 0 ∷ 0x0F ∷ 0xFF ∷ 0xF0 ∷ 0 ∷ 0 ∷ 0 ∷ []

-- ones (own): an inner count of 63
abbrev pub ones_stream : List ℕ
ones_stream = 0xFE ∷ 0xFF ∷ 0xFF ∷ []
