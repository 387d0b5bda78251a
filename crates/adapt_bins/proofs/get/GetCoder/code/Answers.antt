use Rattle.std.proofs.Common.{◌∙◌, ap, length}
use Rattle.std.proofs.lemmas.List.{length-set}
use Rattle.adapt_bins.proofs.GotSteps.{has_got_one_more}
use Rattle.adapt_bins.proofs.get.GetCoder.code.Goals as goal

pub returns-clause-coded : goal.returns-clause-coded
returns-clause-coded c = record {
  room = ap length c.count.ensures ∙ simp length-set;
  on = λ bytes earlier has.
      has_got_one_more _ _ bytes earlier c.args.bin c.prob.result c.take-bit.result c.requires
      c.prob.ensures.value c.count.ensures c.take-bit.ensures.bytes c.take-bit.ensures.taken has;
}
