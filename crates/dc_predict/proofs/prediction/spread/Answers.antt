use Rattle.std.proofs.Common.{rules}
use Rattle.dc_predict.proofs.prediction.spread.Goals as goal

pub returns-in-Some-Some-clause-few : goal.returns-in-Some-Some-clause-few
returns-in-Some-Some-clause-few c = c.size.ensures.no_more 16 (search rules)
