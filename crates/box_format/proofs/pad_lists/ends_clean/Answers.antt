use Rattle.std.proofs.Common.{sym, ◌∙◌}
use Rattle.box_format.proofs.CleanBits.{one_set, none_set, no_more_set}
use Rattle.box_format.proofs.pad_lists.ends_clean.Goals as goal

pub returns-then-bit_in : goal.returns-then-bit_in
returns-then-bit_in c =
    sym (one_set c.args.list.now c.loop-i.i c.loop-i-test.true
    (sym c.bit_in.ensures ∙ c.if-bit_in.true)) ∙ c.loop-i.invariant.left

pub loop-i-preserved : goal.loop-i-preserved
loop-i-preserved c = record {
  left = sym (none_set c.args.list.now c.loop-i.i c.loop-i-test.true
      (sym c.bit_in.ensures ∙ c.if-bit_in.false)) ∙ c.loop-i.invariant.left;
}

pub returns : goal.returns
returns c =
    sym (no_more_set c.args.list.now c.loop-i.i c.loop-i-test.false) ∙ c.loop-i.invariant.left
