use Rattle.std.proofs.Common.{ap, subst}
use Rattle.outside_core.specs.Written.{HasWritten}
use Rattle.container_spec.specs.Portions.{Portion}
use Rattle.lepton_decode.proofs.PortionsWritten.{before_taken, failed_before, nothing_begun}
use Rattle.lepton_decode.proofs.playing.play_bare.Goals as goal

pub put-requires : goal.put-requires
put-requires g c =
    before_taken c.args.kind c.args.view.now c.args.portion.now c.requires.windowed g.K.Sink.held g.K.Sink.takes
    g.K.Sink.faults g.K.Sink.full c.args.sink.now _ (ap (λ (p : Portion). p.before) c.portion.view_is)
    c.requires.takes

pub returns-in-Err-clause-ends : goal.returns-in-Err-clause-ends
returns-in-Err-clause-ends g c =
    failed_before c.args.kind c.args.view.now c.args.portion.now c.requires.windowed g.K.Sink.held g.K.Sink.takes
    g.K.Sink.faults g.K.Sink.full c.args.sink.now c.put.new.sink _ c.in-Err.written
    (ap (λ (p : Portion). p.before) c.portion.view_is) c.in-Err.ensures.failed

pub finish-requires-clause-so_far : goal.finish-requires-clause-so_far
finish-requires-clause-so_far g c =
    let first = ap (λ (p : Portion). p.before) c.portion.view_is in (
      c.args.sink.now,
      c.requires.takes,
      subst (HasWritten g.K.Sink.held g.K.Sink.takes g.K.Sink.faults c.args.sink.now c.put.new.sink)
          (nothing_begun c.args.view.now c.args.portion.now _ first c.requires.none) c.in-Ok.ensures.whole,
    )

pub returns-clause-ends : goal.returns-clause-ends
returns-clause-ends g c =
    let first = ap (λ (p : Portion). p.before) c.portion.view_is in
    c.finish.ensures.ends c.args.sink.now
    (subst (HasWritten g.K.Sink.held g.K.Sink.takes g.K.Sink.faults c.args.sink.now c.put.new.sink)
    (nothing_begun c.args.view.now c.args.portion.now _ first c.requires.none) c.in-Ok.ensures.whole)
