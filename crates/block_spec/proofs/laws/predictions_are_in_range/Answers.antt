use Rattle.block_spec.proofs.Predicted.{prediction_fits}
use Rattle.block_spec.proofs.laws.predictions_are_in_range.Goals as goal

pub returns : goal.returns
returns c = prediction_fits
