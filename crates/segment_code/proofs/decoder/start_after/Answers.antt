use Rattle.std.proofs.Common.{◌+◌, arith, sym, ap, ◌∙◌}
use Rattle.std.specs.Prelude.{Some}
use Rattle.std.proofs.lemmas.Option.{slice_get-get_or, slice_get_past}
use Rattle.handover.specs.Handovers.{HandoverFields, start}
use Rattle.segment_code.proofs.decoder.start_after.Goals as goal

pub returns-then-segment-segments : goal.returns-then-segment-segments
returns-then-segment-segments c =
    let count = c.segments-segments.ensures in
    let under = c.if-segment-segments.true in
    ap (λ (h : HandoverFields). Some h) c.handover.ensures
    ∙ sym (slice_get-get_or c.args.view.now.parts.handovers (c.args.segment + 1) start
    (omega (arith, count, under)))

pub returns-else-segment-segments : goal.returns-else-segment-segments
returns-else-segment-segments c =
    let count = c.segments-segments.ensures in
    let over = c.if-segment-segments.false in
    sym (slice_get_past c.args.view.now.parts.handovers (c.args.segment + 1)
    (omega (arith, count, over)))
