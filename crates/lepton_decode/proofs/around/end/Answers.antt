use Rattle.std.proofs.Common.{◌≡◌, ◌+◌, ◌∙◌, ap, length, subst, sym, ℕ, Result, Err}
use Rattle.std.specs.Prelude.{OnOk}
use Rattle.outside_core.specs.Written.{HasFailed}
use Rattle.container_spec.specs.Portions.{Portion, played, portion_meaning}
use Rattle.segment_worker.specs.Emitting.{Emits, IsThrough, seen_through}
use Rattle.segment_worker.specs.declared.emitted.Emitted.{Emitted}
use Rattle.segment_worker.specs.declared.emitted.EmitStop.{EmitStop}
use Rattle.lepton_decode.proofs.EndsMet.{on_ok}
use Rattle.lepton_decode.proofs.PortionsWritten.{failed_between, has_begun}
use Rattle.lepton_decode.proofs.around.end.Goals as goal

pub finish-requires-clause-so_far : goal.finish-requires-clause-so_far
finish-requires-clause-so_far g c =
    let s = c.requires.so_far in
    let all = seen_through c.args.portion.now.within (played c.args.view.now c.args.portion.now) in (
      s.0,
      s.2,
      has_begun c.args.kind c.args.view.now c.args.portion.now c.requires.windowed g.K.Sink.held g.K.Sink.takes
          g.K.Sink.faults g.K.Sink.full s.0 s.1 c.args.sink.now c.in-Ok.emitted s.3
          (subst (Emits g.K.Sink.held g.K.Sink.takes g.K.Sink.faults g.K.Sink.full s.1 c.args.sink.now all) c.in-Ok.is s.4),
    )

pub returns-in-Ok-clause-ends : goal.returns-in-Ok-clause-ends
returns-in-Ok-clause-ends g c = λ first mid has emits.
    let all = seen_through c.args.portion.now.within (played c.args.view.now c.args.portion.now) in
    c.finish.ensures.ends first
    (has_begun c.args.kind c.args.view.now c.args.portion.now c.requires.windowed g.K.Sink.held g.K.Sink.takes
    g.K.Sink.faults g.K.Sink.full first mid c.args.sink.now c.in-Ok.emitted has
    (subst (Emits g.K.Sink.held g.K.Sink.takes g.K.Sink.faults g.K.Sink.full mid c.args.sink.now all) c.in-Ok.is emits))

pub returns-in-Err-WriteFault-clause-ends : goal.returns-in-Err-WriteFault-clause-ends
returns-in-Err-WriteFault-clause-ends g c = λ first mid has emits.
    let all = seen_through c.args.portion.now.within (played c.args.view.now c.args.portion.now) in
    let e = c.in-Err-WriteFault.is ∙ ap (λ (stop : EmitStop). Err stop) c.in-Err-WriteFault.field-0-is in
    subst (λ (n : ℕ). HasFailed g.K.Sink.held g.K.Sink.faults g.K.Sink.full first c.args.sink.now (portion_meaning c.args.kind c.args.view.now c.args.portion.now).bytes (length c.portion.inside.before.now + n))
    (sym c.in-Err-WriteFault.written-is)
    (failed_between c.args.kind c.args.view.now c.args.portion.now c.requires.windowed g.K.Sink.held g.K.Sink.takes
    g.K.Sink.faults g.K.Sink.full first mid c.args.sink.now _ c.in-Err-WriteFault.written
    (ap (λ (p : Portion). length p.before) c.portion.view_is) has
    (subst (Emits g.K.Sink.held g.K.Sink.takes g.K.Sink.faults g.K.Sink.full mid c.args.sink.now all) e emits))

pub returns-in-Ok-clause-emitted : goal.returns-in-Ok-clause-emitted
returns-in-Ok-clause-emitted g c = λ count view through stopped.
    c.finish.ensures.emitted count view
    (subst (λ (emitted : Result Emitted EmitStop). OnOk emitted (IsThrough count view)) c.in-Ok.is through)

pub returns-in-Ok-clause-whole : goal.returns-in-Ok-clause-whole
returns-in-Ok-clause-whole g c = λ n m same.
    on_ok n m c.finish.result
    (subst (λ (emitted : Result Emitted EmitStop). OnOk emitted (n ≡ m)) c.in-Ok.is same)
