use Rattle.std.proofs.Common.{◌≡◌, ◌∙◌, ap, sym, false, length}
use Rattle.container_spec.specs.Portions.{Portion}
use Rattle.lepton_decode.specs.Played.{falls_short}
use Rattle.lepton_decode.proofs.PortionsWritten.{ends_whole, failed_after}
use Rattle.lepton_decode.proofs.around.finish.Goals as goal

pub returns-in-Err-clause-ends : goal.returns-in-Err-clause-ends
returns-in-Err-clause-ends g c = λ first has.
    let same = c.portion.view_is in
    let enough : falls_short c.args.kind c.args.portion.now.within c.args.emitted.came ≡ false =
    ap (λ (p : Portion). falls_short c.args.kind p.within c.args.emitted.came) (sym same)
    ∙ sym c.is_short.ensures ∙ c.if-is_short.false in
    failed_after c.args.kind c.args.view.now c.args.portion.now c.requires.windowed g.K.Sink.held g.K.Sink.takes
    g.K.Sink.faults g.K.Sink.full first c.args.sink.now c.put.new.sink c.args.emitted _ c.in-Err.written _
    (ap (λ (p : Portion). length p.before) same) (ap (λ (p : Portion). p.after) same) c.requires.emitted enough has
    c.in-Err.ensures.failed

pub returns-clause-ends : goal.returns-clause-ends
returns-clause-ends g c = λ first has.
    let same = c.portion.view_is in
    let enough : falls_short c.args.kind c.args.portion.now.within c.args.emitted.came ≡ false =
    ap (λ (p : Portion). falls_short c.args.kind p.within c.args.emitted.came) (sym same)
    ∙ sym c.is_short.ensures ∙ c.if-is_short.false in
    ends_whole c.args.kind c.args.view.now c.args.portion.now c.requires.windowed g.K.Sink.held g.K.Sink.takes
    g.K.Sink.faults g.K.Sink.full first c.args.sink.now c.put.new.sink c.args.emitted _ _
    (ap (λ (p : Portion). length p.before) same) (ap (λ (p : Portion). p.after) same) c.requires.emitted enough
    (sym c.are_pads_spelled.ensures ∙ c.if-not-are_pads_spelled.false) has c.in-Ok.ensures.whole
