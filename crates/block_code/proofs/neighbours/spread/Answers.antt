use Rattle.std.proofs.Common.{rules}
use Rattle.block_spec.specs.Around.{dc_spread}
use Rattle.block_code.proofs.neighbours.spread.Goals as goal

pub returns-clause-value : goal.returns-clause-value
unfolding dc_spread
returns-clause-value c = search rules
