use Rattle.std.proofs.Common.{◌∙◌}
use Rattle.block_spec.specs.Around.{inner_positions}
use Rattle.block_code.proofs.BandCounts.{among_are, among_few}
use Rattle.block_code.proofs.Placing.{inner_band}
use Rattle.block_code.proofs.coefficients.inner_count.Goals as goal

pub returns-clause-value : goal.returns-clause-value
returns-clause-value c = c.nonzeros_among.ensures ∙ among_are c.inner_indexes.result inner_positions c.args.block.now c.inner_indexes.ensures

pub returns-clause-few : goal.returns-clause-few
returns-clause-few c = rw (returns-clause-value c) (among_few inner_positions 49 c.args.block.now inner_band)
