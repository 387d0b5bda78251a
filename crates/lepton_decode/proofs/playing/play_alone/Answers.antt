use Rattle.std.proofs.Common.{◌≡◌, ◌+◌, ◌*◌, ◌≤◌, ap, arith, length, subst, ℕ}
use Rattle.std.specs.Prelude.{IfOk, OnOk}
use Rattle.outside_core.specs.Written.{HasWritten}
use Rattle.box_format.specs.Versions.{most_segments}
use Rattle.container_spec.specs.Portions.{Portion}
use Rattle.segment_worker.specs.Contents.{Stretch, segment_room}
use Rattle.segment_worker.specs.Emitting.{joined_in}
use Rattle.segment_worker.specs.declared.emitted.Emitted.{Emitted}
use Rattle.lepton_decode.specs.Played.{stretch_of}
use Rattle.lepton_decode.proofs.PortionsWritten.{before_taken, emits_rows, failed_before, rows_taken}
use Rattle.lepton_decode.proofs.playing.play_alone.Goals as goal

pub put-requires : goal.put-requires
put-requires g c =
    before_taken c.args.kind c.args.view.now c.args.portion.now c.requires.windowed g.K.Sink.held g.K.Sink.takes
    g.K.Sink.faults g.K.Sink.full c.args.sink.now _ (ap (λ (p : Portion). p.before) c.portion.view_is)
    c.requires.takes

pub returns-in-Err-clause-ends : goal.returns-in-Err-clause-ends
returns-in-Err-clause-ends g c =
    failed_before c.args.kind c.args.view.now c.args.portion.now c.requires.windowed g.K.Sink.held g.K.Sink.takes
    g.K.Sink.faults g.K.Sink.full c.args.sink.now c.put.new.sink _ c.in-Err.written
    (ap (λ (p : Portion). p.before) c.portion.view_is) c.in-Err.ensures.failed

pub emit_alone-emitted-requires-clause-takes : goal.emit_alone-emitted-requires-clause-takes
emit_alone-emitted-requires-clause-takes g c =
    rows_taken c.args.kind c.args.view.now c.args.portion.now c.requires.windowed g.K.Sink.held g.K.Sink.takes
    g.K.Sink.faults g.K.Sink.full c.args.sink.now c.put.new.sink _ _ _
    (ap (λ (p : Portion). p.before) c.portion.view_is) (ap (λ (p : Portion). p.within) c.portion.view_is)
    (ap (stretch_of c.args.view.now) c.portion.view_is) c.requires.takes c.in-Ok.ensures.whole

pub end-requires-clause-came : goal.end-requires-clause-came
end-requires-clause-came g c =
    subst (λ (s : Stretch). IfOk c.emit_alone-emitted.result (λ (e : Emitted). e.came ≡ length (joined_in s).bytes))
    (ap (stretch_of c.args.view.now) c.portion.view_is) c.emit_alone-emitted.ensures.came

pub end-requires-clause-few : goal.end-requires-clause-few
end-requires-clause-few g c =
    subst (λ (s : Stretch). length (joined_in s).bytes ≤ segment_room * most_segments)
    (ap (stretch_of c.args.view.now) c.portion.view_is) c.emit_alone-emitted.ensures.few

pub end-requires-clause-so_far : goal.end-requires-clause-so_far
end-requires-clause-so_far g c = (
  c.args.sink.now,
  c.put.new.sink,
  c.requires.takes,
  subst (HasWritten g.K.Sink.held g.K.Sink.takes g.K.Sink.faults c.args.sink.now c.put.new.sink)
      (ap (λ (p : Portion). p.before) c.portion.view_is) c.in-Ok.ensures.whole,
  emits_rows c.args.kind c.args.view.now c.args.portion.now c.requires.windowed g.K.Sink.held g.K.Sink.takes
      g.K.Sink.faults g.K.Sink.full c.put.new.sink c.emit_alone-emitted.new.sink _ _ c.emit_alone-emitted.result
      (ap (λ (p : Portion). p.within) c.portion.view_is) (ap (stretch_of c.args.view.now) c.portion.view_is) c.emit_alone-emitted.ensures.ends,
)

pub returns-clause-ends : goal.returns-clause-ends
returns-clause-ends g c =
    c.end.ensures.ends c.args.sink.now c.put.new.sink
    (subst (HasWritten g.K.Sink.held g.K.Sink.takes g.K.Sink.faults c.args.sink.now c.put.new.sink)
    (ap (λ (p : Portion). p.before) c.portion.view_is) c.in-Ok.ensures.whole)
    (emits_rows c.args.kind c.args.view.now c.args.portion.now c.requires.windowed g.K.Sink.held g.K.Sink.takes
    g.K.Sink.faults g.K.Sink.full c.put.new.sink c.emit_alone-emitted.new.sink _ _ c.emit_alone-emitted.result
    (ap (λ (p : Portion). p.within) c.portion.view_is) (ap (stretch_of c.args.view.now) c.portion.view_is) c.emit_alone-emitted.ensures.ends)

pub returns-clause-begun : goal.returns-clause-begun
returns-clause-begun g c =
    let begun = c.emit_alone-emitted.new.decoder.begun in
    let fresh = c.requires.fresh in
    let same = ap (λ (p : Portion). p.count) c.portion.view_is in
    let count : c.args.lone.now.decoder.begun + c.portion.inside.count ≡ c.args.portion.now.count =
    omega (arith, fresh, same) in
    subst (λ (n : ℕ). OnOk c.end.result (begun ≡ n)) count
    (c.end.ensures.whole _ _ c.emit_alone-emitted.ensures.begun)
