use Rattle.std.proofs.Common.{◌∙◌, ap, length}
use Rattle.std.proofs.lemmas.List.{length-set}
use Rattle.adapt_bins.proofs.PutSteps.{local_one_more}
use Rattle.adapt_bins.proofs.put_local.PutLocalCoder.code.Goals as goal

pub returns-clause-coded : goal.returns-clause-coded
returns-clause-coded c = record {
  room = ap length c.count.ensures ∙ simp length-set;
  on = λ earlier has.
      local_one_more _ _ earlier c.args.bin c.prob.result c.unwrap_or-bit.result c.requires
      c.prob.ensures.value c.count.ensures c.in_ok-put.ensures.coded has;
}
