use Rattle.std.proofs.Common.{below_more, sym, ap, ◌∙◌, arith}
use Rattle.board_core.specs.BoardStates.{SegmentState}
use Rattle.board_core.proofs.CoreSegments.{kept_is}
use Rattle.board_core.proofs.segment.index_of.Goals as goal

pub loop-i-preserved : goal.loop-i-preserved
loop-i-preserved c = below_more _ _ c.loop-i.invariant
    (λ own. let at =
    kept_is c.args.segments.now c.loop-i.i c.index-segments-i.result
    (omega arith) c.index-segments-i.is in
    let mine = c.if-is_owned.ensures.1 (sym (ap (λ (s : SegmentState). s.owner) at) ∙ own) in cc)
