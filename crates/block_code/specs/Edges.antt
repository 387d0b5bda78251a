-- Steps: the edges of a block, the row's and then the column's (own).
use Rattle.std.specs.Prelude.{ℕ, zero, suc, ℤ, ◌≡◌, Bool, true, false, List, [], ◌++◌}
use Rattle.block_spec.specs.Around.{Around, column_positions, row_positions, values_in}
use Rattle.block_spec.specs.BlockEvents.{edge_events}
use Rattle.block_code.specs.BandPositions.{AreSameElsewhere}

-- the row edge was coded, after which the block is this
pub record RowCoded (codes : List (ℕ × Bool) → Type 0) (given : Type 0) (class : ℕ)
    (around : Around) (inner : ℕ) (start wanted row : List ℤ) : Type 0 where
  pub others : AreSameElsewhere row_positions start row
  pub coded : codes (edge_events class false around inner (values_in row_positions row))
  pub same : given → values_in row_positions row ≡ values_in row_positions wanted

-- and then the column edge
pub record EdgesCoded (codes : List (ℕ × Bool) → Type 0) (given : Type 0) (class : ℕ)
    (around : Around) (inner : ℕ) (start wanted end : List ℤ) : Type 0 where
  pub row : List ℤ
  pub row_others : AreSameElsewhere row_positions start row
  pub column_others : AreSameElsewhere column_positions row end
  pub coded : codes (edge_events class false around inner (values_in row_positions row)
      ++ edge_events class true around inner (values_in column_positions end))
  pub row_same : given → values_in row_positions row ≡ values_in row_positions wanted
  pub column_same : given → values_in column_positions end ≡ values_in column_positions wanted

-- as many of the two as the last number says
abbrev pub edges_so_far : (List (ℕ × Bool) → Type 0) → Type 0 → ℕ → Around → ℕ → List ℤ → List ℤ
    → List ℤ → ℕ → Type 0
edges_so_far codes given class around inner start wanted now zero = codes [] × (now ≡ start)
edges_so_far codes given class around inner start wanted now (suc zero) =
    RowCoded codes given class around inner start wanted now
edges_so_far codes given class around inner start wanted now (suc (suc n)) =
    EdgesCoded codes given class around inner start wanted now
