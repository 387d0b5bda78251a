use Rattle.block_spec.proofs.Predicted.{prediction_fits}
use Rattle.block_spec.proofs.Given.{answers_one}
use Rattle.block_spec.proofs.laws.one_answer.Goals as goal

pub returns : goal.returns
returns c = λ bytes earlier class around r s are p q. answers_one bytes earlier class around r s (prediction_fits around are) p q
