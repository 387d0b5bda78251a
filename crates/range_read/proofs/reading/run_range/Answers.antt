use Rattle.std.proofs.Common.{ap, subst, sym, ℕ}
use Rattle.outside_core.specs.Takes.{TakesNext}
use Rattle.container_spec.specs.Portions.{Portion}
use Rattle.range_read.specs.RangeEnds.{IsRanged, RangeSeen, range_in}
use Rattle.range_read.proofs.RangesPlayed.{range_ends, range_taken}
use Rattle.range_read.proofs.reading.run_range.Goals.{in-Some, in-None}
use Rattle.range_read.proofs.reading.run_range.Goals as goal

pub play-ended-requires-clause-takes : goal.play-ended-requires-clause-takes
play-ended-requires-clause-takes g c κs within =
    range_taken c.ready.inside.scan c.ready.inside.from c.ready.inside.to c.file-view.result.now
    c.range_portion-portion.result c.file-view.ensures c.range_portion-portion.ensures g.K.Sink.held g.K.Sink.takes g.K.Sink.faults
    g.K.Sink.full c.args.sink.now
    (subst (λ (ready : RangeSeen). TakesNext g.K.Sink.takes c.args.sink.now (range_in ready).bytes)
    (sym c.ready.view_is) c.requires.takes)

pub play_bare-requires-clause-takes : goal.play_bare-requires-clause-takes
play_bare-requires-clause-takes g c =
    range_taken c.ready.inside.scan c.ready.inside.from c.ready.inside.to c.file-view.result.now
    c.range_portion-portion.result c.file-view.ensures c.range_portion-portion.ensures g.K.Sink.held g.K.Sink.takes g.K.Sink.faults
    g.K.Sink.full c.args.sink.now
    (subst (λ (ready : RangeSeen). TakesNext g.K.Sink.takes c.args.sink.now (range_in ready).bytes)
    (sym c.ready.view_is) c.requires.takes)

pub returns-clause-ends : goal.returns-clause-ends
returns-clause-ends g c =
    let count = ap (λ (p : Portion). p.count) c.portion.view_is in
    elim c.match-ready.branch [
      | in-Some w ↦
          rw (w.sink-is, w.result-is, sym c.ready.view_is) (range_ends c.ready.inside.scan c.ready.inside.from c.ready.inside.to
          c.file-view.result.now c.range_portion-portion.result c.file-view.ensures c.range_portion-portion.ensures g.K.Sink.held g.K.Sink.takes
          g.K.Sink.faults g.K.Sink.full c.args.sink.now w.play-ended.new.sink w.play-ended.result w.as_range.result w.play-ended.ensures.ends
          (subst (λ (n : ℕ). IsRanged n w.play-ended.result w.as_range.result) count w.as_range.ensures))
      | in-None w ↦
          rw (w.sink-is, w.result-is, sym c.ready.view_is) (range_ends c.ready.inside.scan c.ready.inside.from c.ready.inside.to
          c.file-view.result.now c.range_portion-portion.result c.file-view.ensures c.range_portion-portion.ensures g.K.Sink.held g.K.Sink.takes
          g.K.Sink.faults g.K.Sink.full c.args.sink.now w.play_bare.new.sink w.play_bare.result w.as_range-in-None.result w.play_bare.ensures.ends
          (subst (λ (n : ℕ). IsRanged n w.play_bare.result w.as_range-in-None.result) count w.as_range-in-None.ensures))
    ]
