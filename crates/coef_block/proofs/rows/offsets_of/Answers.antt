use Rattle.std.proofs.Common.{◌≢◌, ◌<◌, length, arith, add-one, get_or-set_other, get_or-set_same, length-set, below_more, ◌∙◌}
use Rattle.coef_block.proofs.rows.offsets_of.Goals as goal

pub loop-component-preserved : goal.loop-component-preserved
loop-component-preserved c =
    record {
      long = length-set c.loop-component.offsets c.loop-component.component c.loop-component.count ∙ c.loop-component.invariant.long;
      count = rw add-one (omega (arith, c.loop-component.invariant.count));
      offsets = below_more _ _
          (λ k h. let ne : k ≢ c.loop-component.component = omega arith in rw get_or-set_other (c.loop-component.invariant.offsets k h))
          (let lt : c.loop-component.component < length c.loop-component.offsets = omega (arith, c.loop-component.invariant.long) in rw get_or-set_same c.loop-component.invariant.count);
    }
