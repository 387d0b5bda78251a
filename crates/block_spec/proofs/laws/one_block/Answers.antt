use Rattle.block_spec.proofs.Predicted.{prediction_fits}
use Rattle.block_spec.proofs.BlocksOnce.{block_apart}
use Rattle.block_spec.proofs.laws.one_block.Goals as goal

pub returns : goal.returns
returns c = λ class around a b fa fb are. block_apart class around a b fa fb (prediction_fits around are)
