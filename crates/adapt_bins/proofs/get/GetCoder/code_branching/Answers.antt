use Rattle.std.proofs.Common.{◌∙◌, ap, length, true, false}
use Rattle.std.proofs.lemmas.List.{length-set}
use Rattle.adapt_bins.proofs.GotSteps.{has_got_one_more}
use Rattle.adapt_bins.proofs.get.GetCoder.code_branching.Goals as goal

pub returns-then-take_branching-clause-coded : goal.returns-then-take_branching-clause-coded
returns-then-take_branching-clause-coded c = record {
  room = ap length c.count.ensures ∙ simp length-set;
  on = λ bytes earlier has.
      has_got_one_more _ _ bytes earlier c.args.bin c.prob.result true c.requires
      c.prob.ensures.value c.count.ensures c.if-take_branching.ensures.bytes c.if-take_branching.ensures.taken has;
}

pub returns-clause-coded : goal.returns-clause-coded
returns-clause-coded c = record {
  room = ap length c.count-2.ensures ∙ simp length-set;
  on = λ bytes earlier has.
      has_got_one_more _ _ bytes earlier c.args.bin c.prob.result false c.requires
      c.prob.ensures.value c.count-2.ensures c.if-take_branching.ensures.bytes c.if-take_branching.ensures.taken has;
}
