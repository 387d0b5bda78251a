use Rattle.std.proofs.Common.{◌≡◌, ◌*◌, ◌≤◌, ap, length, subst}
use Rattle.std.specs.Prelude.{IfOk, OnOk}
use Rattle.outside_core.specs.Written.{HasWritten}
use Rattle.box_format.specs.Versions.{most_segments}
use Rattle.container_spec.specs.Portions.{Portion}
use Rattle.segment_worker.specs.Contents.{Stretch, segment_room}
use Rattle.segment_worker.specs.Emitting.{IsThrough, joined_in}
use Rattle.segment_worker.specs.declared.emitted.Emitted.{Emitted}
use Rattle.lepton_decode.proofs.EndsMet.{have_left}
use Rattle.lepton_decode.proofs.PortionsWritten.{before_taken, emits_rows, failed_before, rows_taken}
use Rattle.lepton_decode.proofs.playing.play.Goals as goal

pub put-requires : goal.put-requires
put-requires g c =
    before_taken c.args.kind c.args.view.now c.args.portion.now c.requires.windowed g.K.Sink.held g.K.Sink.takes
    g.K.Sink.faults g.K.Sink.full c.args.sink.now _ (ap (λ (p : Portion). p.before) c.portion.view_is)
    c.requires.takes

pub returns-in-Err-clause-ends : goal.returns-in-Err-clause-ends
returns-in-Err-clause-ends g c =
    failed_before c.args.kind c.args.view.now c.args.portion.now c.requires.windowed g.K.Sink.held g.K.Sink.takes
    g.K.Sink.faults g.K.Sink.full c.args.sink.now c.put.new.sink _ c.in-Err.written
    (ap (λ (p : Portion). p.before) c.portion.view_is) c.in-Err.ensures.failed

pub emit-emitted-requires-clause-takes : goal.emit-emitted-requires-clause-takes
emit-emitted-requires-clause-takes g c κs within =
    rows_taken c.args.kind c.args.view.now c.args.portion.now c.requires.windowed g.K.Sink.held g.K.Sink.takes
    g.K.Sink.faults g.K.Sink.full c.args.sink.now c.put.new.sink _ _ _
    (ap (λ (p : Portion). p.before) c.portion.view_is) (ap (λ (p : Portion). p.within) c.portion.view_is)
    c.requires.segments c.requires.takes c.in-Ok.ensures.whole

pub end-requires-clause-came : goal.end-requires-clause-came
end-requires-clause-came g c =
    subst (λ (s : Stretch). IfOk c.emit-emitted.result (λ (e : Emitted). e.came ≡ length (joined_in s).bytes))
    c.requires.segments c.emit-emitted.ensures.came

pub end-requires-clause-few : goal.end-requires-clause-few
end-requires-clause-few g c =
    subst (λ (s : Stretch). length (joined_in s).bytes ≤ segment_room * most_segments)
    c.requires.segments c.emit-emitted.ensures.few

pub end-requires-clause-so_far : goal.end-requires-clause-so_far
end-requires-clause-so_far g c = (
  c.args.sink.now,
  c.put.new.sink,
  c.requires.takes,
  subst (HasWritten g.K.Sink.held g.K.Sink.takes g.K.Sink.faults c.args.sink.now c.put.new.sink)
      (ap (λ (p : Portion). p.before) c.portion.view_is) c.in-Ok.ensures.whole,
  emits_rows c.args.kind c.args.view.now c.args.portion.now c.requires.windowed g.K.Sink.held g.K.Sink.takes
      g.K.Sink.faults g.K.Sink.full c.put.new.sink c.emit-emitted.new.sink _ _ c.emit-emitted.result
      (ap (λ (p : Portion). p.within) c.portion.view_is) c.requires.segments c.emit-emitted.ensures.ends,
)

pub returns-clause-ends : goal.returns-clause-ends
returns-clause-ends g c =
    c.end.ensures.ends c.args.sink.now c.put.new.sink
    (subst (HasWritten g.K.Sink.held g.K.Sink.takes g.K.Sink.faults c.args.sink.now c.put.new.sink)
    (ap (λ (p : Portion). p.before) c.portion.view_is) c.in-Ok.ensures.whole)
    (emits_rows c.args.kind c.args.view.now c.args.portion.now c.requires.windowed g.K.Sink.held g.K.Sink.takes
    g.K.Sink.faults g.K.Sink.full c.put.new.sink c.emit-emitted.new.sink _ _ c.emit-emitted.result
    (ap (λ (p : Portion). p.within) c.portion.view_is) c.requires.segments c.emit-emitted.ensures.ends)

pub returns-clause-emitted : goal.returns-clause-emitted
returns-clause-emitted g c =
    let through = subst (λ (s : Stretch). OnOk c.emit-emitted.result (IsThrough s.count c.emit-emitted.new.self.emitter.view))
    c.requires.segments c.emit-emitted.ensures.through in
    c.end.ensures.emitted _ _ through c.emit-emitted.ensures.stopped

pub returns-clause-left : goal.returns-clause-left
returns-clause-left g c = have_left _ c.end.result c.emit-emitted.ensures.left
