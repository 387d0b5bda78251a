use Rattle.std.proofs.Common.{◌∷◌, [], length, subst, sym, ap, ◌∙◌, arith, length-append}
use Rattle.std.specs.Prelude.{All}
use Rattle.std.proofs.lemmas.List.Elements.{All-push}
use Rattle.range_read.specs.Lanes.{IsLane}
use Rattle.range_read.proofs.lanes.lanes_of.Goals as goal

pub loop-alloc-preserved : goal.loop-alloc-preserved
loop-alloc-preserved c =
    let kept = c.in_ok-push.ensures.items in
    let long = ap length kept ∙ length-append c.loop-alloc.lanes.items (c.in_ok-lane_of.field-0 ∷ []) in
    let len = c.len.ensures in
    let test = c.loop-alloc-test.true in
    record {
      new = subst (All (IsLane c.args.scan.now 0)) (sym kept)
          (All-push (IsLane c.args.scan.now 0) c.loop-alloc.lanes.items c.in_ok-lane_of.field-0
          c.loop-alloc.invariant.new c.in_ok-lane_of.ensures);
      within = omega (arith, long, len, test);
    }
