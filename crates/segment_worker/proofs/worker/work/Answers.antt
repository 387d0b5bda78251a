use Rattle.std.proofs.Common.{◌<◌, ◌∙◌, sym, ap, subst, arith}
use Rattle.output_board.specs.declared.view.WorkerView.{WorkerView}
use Rattle.segment_worker.specs.Contents.{Stretch, stretch}
use Rattle.segment_worker.specs.OwnSegments.{OwesRest}
use Rattle.segment_worker.proofs.ContentsTold.{bytes_long}
use Rattle.segment_worker.proofs.OwnPieces.{owes_all}
use Rattle.segment_worker.proofs.worker.work.Goals as goal

pub overflow_add-first : goal.overflow_add-first
overflow_add-first g c =
    let a = c.in-Segment.ensures.answer in
    let long = bytes_long c.loop.seat.content in
    let same = ap (λ (v : Stretch). v.count) c.loop.invariant.content in
    let under = a.5 in
    let is = a.6 in
    let within = c.requires.within in
    let few = c.segments_are_short.ensures.few in
    omega (arith, long, same, under, is, within, few)

pub begin-requires-clause-segment : goal.begin-requires-clause-segment
begin-requires-clause-segment g c =
    let a = c.in-Segment.ensures.answer in
    let long = bytes_long c.loop.seat.content in
    let same = ap (λ (v : Stretch). v.count) c.loop.invariant.content in
    let under = a.5 in
    let is = a.6 in
    let within = c.requires.within in
    omega (arith, long, same, under, is, within)

pub put_segment-requires-clause-number : goal.put_segment-requires-clause-number
put_segment-requires-clause-number g c =
    let a = c.in-Segment.ensures.answer in
    let long = bytes_long c.loop.seat.content in
    let same = ap (λ (v : Stretch). v.count) c.loop.invariant.content in
    let under = a.5 in
    let is = a.6 in
    let within = c.requires.within in
    let few = c.segments_are_short.ensures.few in
    omega (arith, long, same, under, is, within, few)

pub put_segment-requires-clause-owes : goal.put_segment-requires-clause-owes
put_segment-requires-clause-owes g c =
    let v = stretch c.args.view.now c.args.first c.args.count in
    let i = c.loop.invariant in
    let a = c.in-Segment.ensures.answer in
    let long = bytes_long c.loop.seat.content in
    let same = ap (λ (v : Stretch). v.count) i.content in
    let under = a.5 in
    let is = a.6 in
    let within : c.in-Segment.segment < c.args.count = omega (arith, long, same, under, is) in
    let content = c.claim.ensures.hold.content ∙ i.content in
    let none = ap (λ (w : WorkerView). w.put) a.0 in
    subst (λ (z : Stretch). OwesRest z c.in-Segment.segment c.claim.new.seat.view.put c.begin.new.self) (sym content)
    (owes_all v c.in-Segment.segment c.claim.new.seat.view.put c.begin.new.self within none c.begin.ensures.owes)

pub put_segment-requires-clause-going : goal.put_segment-requires-clause-going
put_segment-requires-clause-going g c =
    ap (λ (w : WorkerView). w.over) c.in-Segment.ensures.answer.0 ∙ c.loop.invariant.going
