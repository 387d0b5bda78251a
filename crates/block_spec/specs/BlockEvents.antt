-- Statement: the events of a block: the inner count, the inner coefficients, both edges, the DC
-- (docs/FORMAT.md, The events of a block).
use Rattle.std.specs.Prelude.{◌<◌, ℕ, Bool, true, false, List, ◌++◌, ℤ, ◌-ℤ◌, slice_index}
use Rattle.coef_block.specs.Categories.{category}
use Rattle.coef_context.specs.BinNumbers.{bin_number}
use Rattle.coef_context.specs.Runs.{bin_count}
use Rattle.coef_context.specs.ValueBins.{ValueBins, kind_of, value_bins}
use Rattle.coef_context.specs.declared.context.Context.TheVariants.{InnerCount, InnerStep, EdgeCount, EdgeStep, DcStep}
use Rattle.coef_context.specs.declared.context.Kind.TheVariants.{Inner, Dc}
use Rattle.block_spec.specs.Values.{count_events, value_events, values_events, nonzeros}
use Rattle.block_spec.specs.Around.{Around, inner_positions, row_positions, column_positions, values_in, value_at, inner_weight, edge_weight, inner_count, guess, prediction, dc_spread}

-- the bins of an inner coefficient (own): a step's by the weight, and by the category of how many remain
abbrev pub inner_bins : ℕ → Around → ℕ → ℕ → ValueBins
inner_bins class around place remain =
    let weight = inner_weight around (slice_index inner_positions place) in
    value_bins class Inner place
    (λ step. bin_number class (InnerStep place weight (category remain) step))

-- the positions of an edge (own)
abbrev pub edge_positions : Bool → List ℕ
edge_positions false = row_positions
edge_positions true = column_positions

-- the bins of an edge's coefficient (own)
abbrev pub edge_bins : ℕ → Bool → Around → ℕ → ℕ → ValueBins
edge_bins class column around place remain =
    let weight = edge_weight around (slice_index (edge_positions column) place) in
    value_bins class (kind_of column) place
    (λ step. bin_number class (EdgeStep column place weight (category remain) step))

-- the inner count in six bits, by the category of the guess at it (own)
unfoldable pub inner_count_events : ℕ → ℕ → ℕ → List (ℕ × Bool)
inner_count_events class m n =
    count_events (λ node. bin_number class (InnerCount (category m) node)) 6 n

-- an edge (own): how many of its coefficients are not 0, in three bits by the category of the inner count; then these
unfoldable pub edge_events : ℕ → Bool → Around → ℕ → List ℤ → List (ℕ × Bool)
edge_events class column around inner values =
    count_events (λ node. bin_number class (EdgeCount column (category inner) node)) 3
    (nonzeros values)
    ++ values_events (edge_bins class column around) 0 values

-- the DC less its prediction, in sixteen steps (own)
unfoldable pub dc_events : ℕ → Around → ℤ → List (ℕ × Bool)
dc_events class around residue =
    value_events
    (value_bins class Dc 0 (λ step. bin_number class (DcStep (dc_spread around) step)))
    0 16 residue

-- the coefficients of a block but for its DC (own)
unfoldable pub ac_events : ℕ → Around → List ℤ → List (ℕ × Bool)
ac_events class around block =
    values_events (inner_bins class around) 0 (values_in inner_positions block)
    ++ (edge_events class false around (inner_count block) (values_in row_positions block)
    ++ edge_events class true around (inner_count block) (values_in column_positions block))

-- all events of a block (own)
unfoldable pub block_events : ℕ → Around → List ℤ → List (ℕ × Bool)
block_events class around block =
    inner_count_events class (guess around) (inner_count block)
    ++ (ac_events class around block
    ++ dc_events class around (value_at block 0 -ℤ prediction around))

-- the most events of a block (own): 6 of the inner count and 3 of each edge's; 20 of each of 63 coefficients, as ten
-- steps, a sign and nine bits; 32 of the DC, as 16 steps, a sign and 15 bits
abbrev pub most_events : ℕ
most_events = 1304

-- a bin that a context of the two classes can have (own)
abbrev pub IsBin : ℕ → Type 0
IsBin bin = bin < bin_count
