use Rattle.bool_coder.proofs.Line.{coded-kept, opening-kept}
use Rattle.bool_coder.specs.BoolStream.{opening}
use Rattle.bool_coder.proofs.laws.stays_on_the_line.Goals as goal

pub returns : goal.returns
returns c = λ bools all. (coded-kept opening bools all opening-kept).on_line
