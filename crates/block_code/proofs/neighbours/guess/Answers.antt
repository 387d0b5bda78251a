use Rattle.std.proofs.Common.{rules}
use Rattle.block_spec.specs.Around.{guess}
use Rattle.block_code.proofs.neighbours.guess.Goals as goal

pub returns-in-Some-Some-clause-value : goal.returns-in-Some-Some-clause-value
unfolding guess
returns-in-Some-Some-clause-value c = search rules

pub returns-in-Some-None-clause-value : goal.returns-in-Some-None-clause-value
unfolding guess
returns-in-Some-None-clause-value c = search rules

pub returns-in-None-Some-clause-value : goal.returns-in-None-Some-clause-value
unfolding guess
returns-in-None-Some-clause-value c = search rules

pub returns-in-None-None-clause-value : goal.returns-in-None-None-clause-value
unfolding guess
returns-in-None-None-clause-value c = search rules
