use Rattle.std.proofs.Common.{ℕ, arith, subst, ◌++◌}
use Rattle.block_spec.specs.Around.{values_in}
use Rattle.block_spec.specs.Values.{count_events, values_events}
use Rattle.block_spec.specs.BlockEvents.{edge_events, edge_bins, edge_positions}
use Rattle.block_spec.proofs.CategoryBits.{category_at_most}
use Rattle.block_code.specs.NeighbourBlocks.{around_of}
use Rattle.block_code.proofs.Placing.{edge_band}
use Rattle.block_code.proofs.bands.code_edge.Goals as goal

pub edge_count_base-base-requires-clause-bits : goal.edge_count_base-base-requires-clause-bits
edge_count_base-base-requires-clause-bits g c = rw (c.bits_of.ensures, c.from.ensures) (let h = category_at_most 6 c.args.inner (omega (arith, c.requires.inner)) in omega (arith, h))

pub code_values-requires-clause-positions : goal.code_values-requires-clause-positions
code_values-requires-clause-positions g c = edge_band c.args.column

pub returns-clause-coded : goal.returns-clause-coded
unfolding edge_events
returns-clause-coded g c =
    let joined = g.met.C.Coder.joined _ _ _ _ _ c.in_ok-count.ensures.coded c.in_ok-code_values.ensures.coded in
    let sized = rw (c.bits_of.ensures, c.from.ensures) at c.edge_count_base-base.ensures.bins in
    let fixed = subst (λ (f : ℕ → ℕ). g.C.Coder.codes c.args.coder.now (count_events f 3 c.in_ok-count.count ++ values_events (edge_bins c.args.class c.args.column (around_of c.args.neighbours)) 0 (values_in (edge_positions c.args.column) c.code_values.new.out)) c.code_values.new.coder) sized joined in
    rw (← c.in_ok-code_values.ensures.count) at fixed
