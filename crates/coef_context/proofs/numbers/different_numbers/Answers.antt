use Rattle.coef_context.proofs.Shapes.{number_once}
use Rattle.coef_context.proofs.numbers.different_numbers.Goals as goal

pub returns-clause-once : goal.returns-clause-once
returns-clause-once c = number_once
