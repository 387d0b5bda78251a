use Rattle.std.proofs.Common.{refl}
use Rattle.bool_coder.specs.BoolStream.{after, stream}
use Rattle.bool_coder.proofs.laws.rows_of_the_definition.Goals as goal

pub returns-clause-zeros : goal.returns-clause-zeros
unfolding after stream
returns-clause-zeros c = refl

pub returns-clause-a_one : goal.returns-clause-a_one
unfolding after stream
returns-clause-a_one c = refl

pub returns-clause-more_zeros : goal.returns-clause-more_zeros
unfolding after stream
returns-clause-more_zeros c = refl

pub returns-clause-likely_zeros : goal.returns-clause-likely_zeros
unfolding after stream
returns-clause-likely_zeros c = refl
