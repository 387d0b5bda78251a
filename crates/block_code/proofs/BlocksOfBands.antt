-- A block of its bands and its DC, and their events.
use Rattle.std.proofs.Common.{◌≡◌, ℕ, ◌++◌, Bool, true, false, List, [], ◌∷◌, refl, subst, sym, ap, ◌∙◌, arith, pos, set, replicate}
use Rattle.std.specs.Prelude.{ℤ, ◌+ℤ◌, ◌-ℤ◌}
use Rattle.std.proofs.lemmas.List.{get_or-set_same, get_or-set_other}
use Rattle.coef_block.specs.Block.{IsBlock, IsDc}
use Rattle.block_spec.specs.Values.{nonzeros, values_events}
use Rattle.block_spec.specs.Around.{Around, prediction, value_at, values_in, inner_count, inner_positions, row_positions, column_positions}
use Rattle.block_spec.specs.BlockEvents.{ac_events, block_events, edge_events, inner_bins}
use Rattle.block_spec.specs.ReadBlocks.{IsDcRange, residue_events}
use Rattle.block_code.specs.BandPositions.{AreSameElsewhere, HaveSameAcs, is_among}
use Rattle.block_code.specs.ValueRanges.{IsResidue}
use Rattle.block_code.proofs.BlockCoefficients.{residue_back}
use Rattle.block_code.proofs.Placing.{bands_apart, dc_apart, first_other, values_kept, zeros_none}

-- bands that follow one another in a block of zeros
pub row_empty : (zeros first : List ℤ) → zeros ≡ replicate 64 (pos 0) → AreSameElsewhere inner_positions zeros first → nonzeros (values_in row_positions first) ≡ 0
row_empty zeros first e inner =
    ap nonzeros (values_kept row_positions inner_positions zeros first bands_apart.2 inner ∙ ap (values_in row_positions) e) ∙ zeros_none.1

pub column_empty : (zeros first : List ℤ) → zeros ≡ replicate 64 (pos 0) → AreSameElsewhere inner_positions zeros first → nonzeros (values_in column_positions first) ≡ 0
column_empty zeros first e inner =
    ap nonzeros (values_kept column_positions inner_positions zeros first bands_apart.4 inner ∙ ap (values_in column_positions) e) ∙ zeros_none.2

pub inner_stays : (first second third : List ℤ) → AreSameElsewhere row_positions first second → AreSameElsewhere column_positions second third → values_in inner_positions third ≡ values_in inner_positions first
inner_stays first second third row column =
    values_kept inner_positions column_positions second third bands_apart.1 column ∙ values_kept inner_positions row_positions first second bands_apart.0 row

pub row_stays : (second third : List ℤ) → AreSameElsewhere column_positions second third → values_in row_positions third ≡ values_in row_positions second
row_stays second third column = values_kept row_positions column_positions second third bands_apart.3 column

pub all_same : (first second third wanted : List ℤ) → AreSameElsewhere row_positions first second → AreSameElsewhere column_positions second third
    → values_in inner_positions first ≡ values_in inner_positions wanted → values_in row_positions second ≡ values_in row_positions wanted → values_in column_positions third ≡ values_in column_positions wanted
    → HaveSameAcs third wanted
all_same first second third wanted row column a b c = record {
  inner = inner_stays first second third row column ∙ a;
  row = row_stays second third column ∙ b;
  column = c;
}

-- their events
pub bands_coded : (codes : List (ℕ × Bool) → Type 0) (class count : ℕ) (around : Around) (first second third : List ℤ) → AreSameElsewhere row_positions first second → AreSameElsewhere column_positions second third
    → inner_count first ≡ count
    → codes (values_events (inner_bins class around) 0 (values_in inner_positions first) ++ (edge_events class false around count (values_in row_positions second) ++ edge_events class true around count (values_in column_positions third)))
    → codes (ac_events class around third)
unfolding ac_events
bands_coded codes class count around first second third row column counted coded =
    rw (inner_stays first second third row column, row_stays second third column, counted) coded

-- the same coefficients have the same events
pub same_events : (class : ℕ) (around : Around) (a b : List ℤ) (residue : ℤ) → HaveSameAcs a b → residue_events class around a residue ≡ residue_events class around b residue
unfolding ac_events
same_events class around a b residue same = rw (same.inner, same.row, same.column) refl

pub wanted_coded : (codes : List (ℕ × Bool) → Type 0) (class : ℕ) (around : Around) (out wanted : List ℤ) (p : ℤ) → p ≡ prediction around → HaveSameAcs out wanted
    → codes (residue_events class around out (value_at wanted 0 -ℤ p)) → codes (block_events class around wanted)
unfolding block_events
wanted_coded codes class around out wanted p e same coded =
    subst codes (ap (λ (q : ℤ). residue_events class around out (value_at wanted 0 -ℤ q)) e ∙ same_events class around out wanted (value_at wanted 0 -ℤ prediction around) same) coded

-- a DC leaves the other coefficients
dc_alone : (block : List ℤ) (dc : ℤ) → AreSameElsewhere (0 ∷ []) block (set block 0 dc)
unfolding is_among
dc_alone block dc position other = get_or-set_other block 0 position dc (pos 0) (λ e. (first_other 0 position [] other).0 (sym e))

with_dc_same : (block : List ℤ) (dc : ℤ) → HaveSameAcs block (set block 0 dc)
with_dc_same block dc = record {
  inner = sym (values_kept inner_positions (0 ∷ []) block (set block 0 dc) dc_apart.0 (dc_alone block dc));
  row = sym (values_kept row_positions (0 ∷ []) block (set block 0 dc) dc_apart.1 (dc_alone block dc));
  column = sym (values_kept column_positions (0 ∷ []) block (set block 0 dc) dc_apart.2 (dc_alone block dc));
}

pub got_coded : (codes : List (ℕ × Bool) → Type 0) (class : ℕ) (around : Around) (block : List ℤ) (p residue : ℤ) → p ≡ prediction around → IsBlock block
    → codes (residue_events class around block residue) → codes (block_events class around (set block 0 (p +ℤ residue)))
got_coded codes class around block p residue e is coded =
    let dc = p +ℤ residue in
    let there : value_at (set block 0 dc) 0 ≡ dc = get_or-set_same block 0 dc (pos 0) (omega (arith, is.count)) in
    let back : value_at (set block 0 dc) 0 -ℤ p ≡ residue = ap (λ (x : ℤ). x -ℤ p) there ∙ residue_back p residue in
    wanted_coded codes class around block (set block 0 dc) p e (with_dc_same block dc)
    (subst (λ (x : ℤ). codes (residue_events class around block x)) (sym back) coded)

-- a residue that gives no DC
pub range_coded : (codes : List (ℕ × Bool) → Type 0) (class : ℕ) (around : Around) (block : List ℤ) (p residue : ℤ) → p ≡ prediction around → IsBlock block → IsResidue residue → (IsDc (p +ℤ residue) → ⊥)
    → codes (residue_events class around block residue) → IsDcRange codes class around
range_coded codes class around block p residue e is small outside coded = record {
  block = block;
  residue = residue;
  is_block = is;
  sixteen = small;
  outside = subst (λ (q : ℤ). IsDc (q +ℤ residue) → ⊥) e outside;
  coded = coded;
}
