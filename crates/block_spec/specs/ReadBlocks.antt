-- Steps: what is read of a block: the block whose events were coded, or why there is none
-- (docs/FORMAT.md, The events of a block).
use Rattle.std.specs.Prelude.{ℕ, ◌<◌, ◌≤◌, Bool, List, ◌++◌, ℤ, ◌+ℤ◌, Result, Ok, Err}
use Rattle.coef_block.specs.Block.{IsBlock, IsDc}
use Rattle.block_spec.specs.Values.{category_of}
use Rattle.block_spec.specs.Around.{Around, guess, prediction, inner_count}
use Rattle.block_spec.specs.BlockEvents.{block_events, inner_count_events, ac_events, dc_events}
use Rattle.block_spec.specs.declared.fault.BlockFault.{BlockFault}
use Rattle.block_spec.specs.declared.fault.BlockFault.TheVariants.{BlockCount, DcRange}

-- the events of a block's AC coefficients, and then of a residue (own)
abbrev pub residue_events : ℕ → Around → List ℤ → ℤ → List (ℕ × Bool)
residue_events class around block residue =
    inner_count_events class (guess around) (inner_count block)
    ++ (ac_events class around block ++ dc_events class around residue)

-- an inner count above 49 was coded (own)
pub record IsBlockCount (codes : List (ℕ × Bool) → Type 0) (class : ℕ) (around : Around)
    : Type 0 where
  pub count : ℕ
  pub many : 49 < count
  pub six_bits : count < 64
  pub coded : codes (inner_count_events class (guess around) count)

-- after the AC coefficients of a block a residue was coded whose sum with the prediction is no DC (own)
pub record IsDcRange (codes : List (ℕ × Bool) → Type 0) (class : ℕ) (around : Around)
    : Type 0 where
  pub block : List ℤ
  pub residue : ℤ
  pub is_block : IsBlock block
  pub sixteen : category_of residue ≤ 16
  pub outside : IsDc (prediction around +ℤ residue) → ⊥
  pub coded : codes (residue_events class around block residue)

-- what is read if these events were coded (own)
abbrev pub IsRead : (List (ℕ × Bool) → Type 0) → ℕ → Around → Result (List ℤ) BlockFault → Type 0
IsRead codes class around (Ok block) = IsBlock block × codes (block_events class around block)
IsRead codes class around (Err BlockCount) = IsBlockCount codes class around
IsRead codes class around (Err DcRange) = IsDcRange codes class around
