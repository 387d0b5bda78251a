use Rattle.std.proofs.Common.{Some, ap}
use Rattle.bool_coder.proofs.EncoderWord.{first-word, first-kept}
use Rattle.bool_coder.proofs.encoder.Encoder.over.Goals as goal

pub invariant_of-result : goal.invariant_of-result
invariant_of-result c = first-word _ c.requires

pub returns : goal.returns
returns c = ap Some (first-kept _ c.requires)
