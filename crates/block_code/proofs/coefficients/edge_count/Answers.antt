use Rattle.std.proofs.Common.{◌∙◌}
use Rattle.block_spec.specs.BlockEvents.{edge_positions}
use Rattle.block_code.proofs.BandCounts.{among_are, among_few}
use Rattle.block_code.proofs.Placing.{edge_band}
use Rattle.block_code.proofs.coefficients.edge_count.Goals as goal

pub returns-clause-value : goal.returns-clause-value
returns-clause-value c = c.nonzeros_among.ensures ∙ among_are c.edge_indexes.result (edge_positions c.args.column) c.args.block.now c.edge_indexes.ensures

pub returns-clause-few : goal.returns-clause-few
returns-clause-few c = rw (returns-clause-value c) (among_few (edge_positions c.args.column) 7 c.args.block.now (edge_band c.args.column))
