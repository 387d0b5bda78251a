use Rattle.block_spec.proofs.ProbsOfBins.{probs_in}
use Rattle.block_spec.proofs.laws.probs_are_bools.Goals as goal

pub returns : goal.returns
returns c = probs_in
