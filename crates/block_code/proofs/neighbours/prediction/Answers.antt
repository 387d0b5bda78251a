use Rattle.std.proofs.Common.{rules}
use Rattle.block_spec.specs.Around.{prediction}
use Rattle.block_code.proofs.neighbours.prediction.Goals as goal

pub returns-clause-value : goal.returns-clause-value
unfolding prediction
returns-clause-value c = search rules
