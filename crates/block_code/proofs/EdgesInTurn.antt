-- The edges of a block, one after the other.
use Rattle.std.proofs.Common.{◌≡◌, ◌<◌, ◌+◌, ◌==◌, ℕ, zero, suc, ◌++◌, Bool, List, [], ap, ◌∙◌, subst, arith}
use Rattle.std.specs.Prelude.{ℤ}
use Rattle.block_spec.specs.Values.{nonzeros}
use Rattle.block_spec.specs.Around.{Around, values_in, row_positions, column_positions}
use Rattle.block_spec.specs.BlockEvents.{edge_events, edge_positions}
use Rattle.block_code.specs.BandPositions.{AreSameElsewhere}
use Rattle.block_code.specs.Edges.{edges_so_far}
use Rattle.block_code.proofs.Placing.{bands_apart, values_kept}

-- the edge that is next holds nothing
pub edge_empty : (codes : List (ℕ × Bool) → Type 0) (given : Type 0) (class : ℕ) (around : Around) (inner : ℕ) (start wanted now : List ℤ) (edge : ℕ) → edge < 2
    → nonzeros (values_in row_positions start) ≡ 0 → nonzeros (values_in column_positions start) ≡ 0
    → edges_so_far codes given class around inner start wanted now edge → nonzeros (values_in (edge_positions (edge == 1)) now) ≡ 0
edge_empty codes given class around inner start wanted now zero few row column far = ap (λ (block : List ℤ). nonzeros (values_in row_positions block)) far.1 ∙ row
edge_empty codes given class around inner start wanted now (suc zero) few row column far = ap nonzeros (values_kept column_positions row_positions start now bands_apart.5 far.others) ∙ column
edge_empty codes given class around inner start wanted now (suc (suc n)) few row column far = absurd (omega (arith, few))

-- one edge more
pub edge_more : (before next after : List (ℕ × Bool) → Type 0) (given : Type 0) (class : ℕ) (around : Around) (inner : ℕ) (start wanted old new : List ℤ) (edge : ℕ) → edge < 2
    → ((es fs : List (ℕ × Bool)) → before es → next fs → after (es ++ fs))
    → next (edge_events class (edge == 1) around inner (values_in (edge_positions (edge == 1)) new))
    → AreSameElsewhere (edge_positions (edge == 1)) old new
    → (given → values_in (edge_positions (edge == 1)) new ≡ values_in (edge_positions (edge == 1)) wanted)
    → edges_so_far before given class around inner start wanted old edge → edges_so_far after given class around inner start wanted new (edge + 1)
edge_more before next after given class around inner start wanted old new zero few join coded others same far = record {
  others = subst (λ (block : List ℤ). AreSameElsewhere row_positions block new) far.1 others;
  coded = join [] _ far.0 coded;
  same = same;
}
edge_more before next after given class around inner start wanted old new (suc zero) few join coded others same far = record {
  row = old;
  row_others = far.others;
  column_others = others;
  coded = join _ _ far.coded coded;
  row_same = far.same;
  column_same = same;
}
edge_more before next after given class around inner start wanted old new (suc (suc n)) few join coded others same far = absurd (omega (arith, few))
