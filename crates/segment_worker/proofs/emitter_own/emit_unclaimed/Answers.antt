use Rattle.std.proofs.Common.{◌≡◌, ◌<◌, ◌∙◌, sym, ap, subst, arith, List, ℕ}
use Rattle.outside_core.specs.Takes.{TakesNext}
use Rattle.byte_window.specs.Windows.{window}
use Rattle.output_board.specs.declared.view.EmitterView.{EmitterView}
use Rattle.segment_worker.specs.Contents.{Stretch, stretch}
use Rattle.segment_worker.specs.OwnSegments.{OwesRest}
use Rattle.segment_worker.proofs.ContentsTold.{bytes_long}
use Rattle.segment_worker.proofs.OwnPieces.{owes_all, claimed_rest, own_none}
use Rattle.segment_worker.proofs.emitter_own.emit_unclaimed.Goals as goal

pub overflow_add-shared-in-Mine : goal.overflow_add-shared-in-Mine
overflow_add-shared-in-Mine g c =
    let a = c.in-Mine.ensures.answer in
    let long = bytes_long c.args.seat.now.content ∙ ap (λ (v : Stretch). v.count) c.requires.content in
    let under = a.6 in
    let is = a.7 in
    let fits = c.requires.fits in
    let few = c.requires.few in
    omega (arith, long, under, is, fits, few)

pub begin-requires-clause-segment : goal.begin-requires-clause-segment
begin-requires-clause-segment g c =
    let a = c.in-Mine.ensures.answer in
    let long = bytes_long c.args.seat.now.content ∙ ap (λ (v : Stretch). v.count) c.requires.content in
    let under = a.6 in
    let is = a.7 in
    let fits = c.requires.fits in
    omega (arith, long, under, is, fits)

pub emit_own-requires-clause-owes : goal.emit_own-requires-clause-owes
emit_own-requires-clause-owes g c =
    let v = stretch c.args.shared.now.view.now c.args.shared.now.first c.args.shared.now.count in
    let a = c.in-Mine.ensures.answer in
    let long = bytes_long c.args.seat.now.content ∙ ap (λ (v : Stretch). v.count) c.requires.content in
    let under = a.6 in
    let is = a.7 in
    let within : c.in-Mine.segment < v.count = omega (arith, long, under, is) in
    let content = c.claim_own.ensures.hold.content ∙ c.requires.content in
    let view = a.0 in
    let cur : c.claim_own.new.seat.view.cur ≡ c.in-Mine.segment =
    ap (λ (w : EmitterView). w.cur) view ∙ sym (is ∙ a.4.1) in
    let none : c.claim_own.new.seat.view.taken ≡ 0 = ap (λ (w : EmitterView). w.taken) view ∙ a.1 in
    subst (λ (z : Stretch × ℕ). OwesRest z.0 z.1 c.claim_own.new.seat.view.taken c.begin.new.self)
    (λ i. (sym content i, sym cur i))
    (owes_all v c.in-Mine.segment c.claim_own.new.seat.view.taken c.begin.new.self within none c.begin.ensures.owes)

pub emit_own-requires-clause-takes : goal.emit_own-requires-clause-takes
emit_own-requires-clause-takes g c =
    subst (λ (l : List ℕ). TakesNext g.K.Sink.takes c.args.sink.now (window c.args.window l))
    (sym (claimed_rest c.args.seat.now c.claim_own.new.seat c.claim_own.ensures.hold.content c.in-Mine.ensures.answer.0))
    c.requires.takes

pub returns-in-Other-clause-ends : goal.returns-in-Other-clause-ends
returns-in-Other-clause-ends g c =
    own_none g.K.Sink.held g.K.Sink.takes g.K.Sink.faults g.K.Sink.full c.args.window c.args.seat.now c.claim_own.new.seat c.args.sink.now
    c.in-Other.ensures.answer.0 c.requires.free c.requires.within
