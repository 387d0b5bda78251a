use Rattle.std.proofs.Common.{◌≡◌, ◌+◌, ◌∙◌, sym, ap, subst, arith, ℕ, Ok}
use Rattle.outside_core.specs.Takes.{TakesNext}
use Rattle.byte_window.specs.declared.window.Window.{Window}
use Rattle.byte_window.specs.Windows.{window}
use Rattle.handover.specs.ScanSums.{sums_of, sums_with}
use Rattle.segment_worker.specs.Contents.{stretch}
use Rattle.outside_core.specs.Written.{HasWritten, HasFailed}
use Rattle.segment_worker.specs.Emitting.{Emits, joined_in, seen_through}
use Rattle.segment_worker.specs.LoneSegments.{OwesSome}
use Rattle.segment_worker.proofs.ContentsTold.{output_of}
use Rattle.segment_worker.proofs.LoneWritten.{no_segments, segment_taken, segment_written, segment_bad, segment_failed, all_segments}
use Rattle.segment_worker.proofs.alone.emit_alone.Goals as goal

pub loop-segment-init : goal.loop-segment-init
loop-segment-init g c =
    rw (c.no_sums-pads.ensures)
    (no_segments g.K.Sink.held g.K.Sink.takes g.K.Sink.faults g.K.Sink.full c.args.window (stretch c.args.view.now c.args.first c.args.count) c.args.decoder.now
    c.args.sink.now c.requires.plans c.requires.fresh)

pub emit_segment-requires-clause-owes : goal.emit_segment-requires-clause-owes
emit_segment-requires-clause-owes g c =
    let loop = c.loop-segment.invariant in
    let v = stretch c.args.view.now c.args.first c.args.count in
    let i = c.loop-segment.segment in
    let owed : OwesSome c.begin.new.self = record {
      bytes = (output_of v i).0;
      outcome = (output_of v i).1;
      owes = c.begin.ensures.owes;
    } in (
      owed,
      subst (λ (w : Window). TakesNext g.K.Sink.takes c.loop-segment.sink (window w (output_of (stretch c.args.view.now c.args.first c.args.count) c.loop-segment.segment).0))
          (sym c.after-rest.ensures)
          (segment_taken g.K.Sink.held g.K.Sink.takes g.K.Sink.faults g.K.Sink.full c.args.window v i c.loop-segment.decoder
          c.args.sink.now c.loop-segment.sink c.loop-segment.came c.loop-segment.pads c.requires.takes loop
          c.loop-segment-test.true),
    )

pub returns-in-Ok-default-Bad-clause-ends : goal.returns-in-Ok-default-Bad-clause-ends
returns-in-Ok-default-Bad-clause-ends g c =
    let loop = c.loop-segment.invariant in
    let ended = c.in-Ok-default-Bad.ensures.ends _ _ c.begin.ensures.owes in
    let has = subst (λ (w : Window). HasWritten g.K.Sink.held g.K.Sink.takes g.K.Sink.faults c.loop-segment.sink c.emit_segment.new.sink
    (window w (output_of (stretch c.args.view.now c.args.first c.args.count) c.loop-segment.segment).0)) c.after-rest.ensures ended.2 in
    segment_bad g.K.Sink.held g.K.Sink.takes g.K.Sink.faults g.K.Sink.full c.args.window (stretch c.args.view.now c.args.first c.args.count)
    c.loop-segment.segment c.loop-segment.decoder c.args.sink.now c.loop-segment.sink c.emit_segment.new.sink
    c.loop-segment.came c.loop-segment.pads c.in-Ok-default-Bad.fault loop
    c.loop-segment-test.true
    (sym c.in-Ok-default-Bad.field-0-1-is ∙ ended.1) has

pub loop-segment-preserved : goal.loop-segment-preserved
loop-segment-preserved g c =
    let loop = c.loop-segment.invariant in
    let ended = c.in-Ok-default-Good.ensures.ends _ _ c.begin.ensures.owes in
    let has = subst (λ (w : Window). HasWritten g.K.Sink.held g.K.Sink.takes g.K.Sink.faults c.loop-segment.sink c.emit_segment.new.sink
    (window w (output_of (stretch c.args.view.now c.args.first c.args.count) c.loop-segment.segment).0)) c.after-rest.ensures ended.2 in
    segment_written g.K.Sink.held g.K.Sink.takes g.K.Sink.faults g.K.Sink.full c.args.window (stretch c.args.view.now c.args.first c.args.count)
    c.loop-segment.segment c.loop-segment.decoder c.emit_segment.new.decoder c.args.sink.now c.loop-segment.sink c.emit_segment.new.sink
    c.loop-segment.came c.in-Ok-default-Good.passed c.loop-segment.pads c.in-Ok-default-Good.more _ loop
    c.loop-segment-test.true
    ended.0 (sym c.in-Ok-default-Good.field-0-1-is ∙ ended.1) has c.in-Ok-default-Good.ensures.few
    (c.in-Ok-default-Good.ensures.plans ∙ c.begin.ensures.plans)
    (c.in-Ok-default-Good.ensures.begun ∙ c.begin.ensures.begun)
    (c.add_sum.ensures
    ∙ ap (λ (k : ℕ). sums_with c.loop-segment.pads (sums_of k c.in-Ok-default-Good.more)) c.segment_at-scan.ensures.scan)

pub returns-in-Err-clause-ends : goal.returns-in-Err-clause-ends
returns-in-Err-clause-ends g c =
    let loop = c.loop-segment.invariant in
    subst (λ (n : ℕ). HasFailed g.K.Sink.held g.K.Sink.faults g.K.Sink.full c.args.sink.now c.emit_segment.new.sink
    (window c.args.window (joined_in (stretch c.args.view.now c.args.first c.args.count)).bytes) (n + c.in-Err.more)) (sym c.through.ensures.value)
    (segment_failed g.K.Sink.held g.K.Sink.takes g.K.Sink.faults g.K.Sink.full c.args.window (stretch c.args.view.now c.args.first c.args.count)
    c.loop-segment.segment c.loop-segment.decoder c.args.sink.now c.loop-segment.sink c.emit_segment.new.sink
    c.loop-segment.came c.in-Err.more c.loop-segment.pads loop
    c.loop-segment-test.true
    (subst (λ (w : Window). HasFailed g.K.Sink.held g.K.Sink.faults g.K.Sink.full c.loop-segment.sink c.emit_segment.new.sink
    (window w (output_of (stretch c.args.view.now c.args.first c.args.count) c.loop-segment.segment).0) c.in-Err.more)
    c.after-rest.ensures (c.in-Err.ensures.ends _ _ c.begin.ensures.owes)))

pub returns-clause-ends : goal.returns-clause-ends
returns-clause-ends g c =
    let least = c.loop-segment-test.false in
    let most = c.loop-segment.auto.segment-end in
    let over : c.loop-segment.segment ≡ c.args.count = omega (arith, least, most) in
    subst (λ (n : ℕ). Emits g.K.Sink.held g.K.Sink.takes g.K.Sink.faults g.K.Sink.full c.args.sink.now c.loop-segment.sink
    (seen_through c.args.window (joined_in (stretch c.args.view.now c.args.first c.args.count))) (Ok (record { bytes = n; came = c.loop-segment.came; pads = c.loop-segment.pads })))
    (sym c.through-2.ensures.value)
    (all_segments g.K.Sink.held g.K.Sink.takes g.K.Sink.faults g.K.Sink.full c.args.window (stretch c.args.view.now c.args.first c.args.count)
    c.loop-segment.segment c.loop-segment.decoder c.args.sink.now c.loop-segment.sink c.loop-segment.came c.loop-segment.pads
    c.loop-segment.invariant over)

pub returns-clause-begun : goal.returns-clause-begun
returns-clause-begun g c =
    let least = c.loop-segment-test.false in
    let most = c.loop-segment.auto.segment-end in
    let begun = c.loop-segment.invariant.begun in
    let fresh = c.requires.fresh in
    omega (arith, least, most, begun, fresh)

pub returns-in-Ok-default-Bad-clause-few : goal.returns-in-Ok-default-Bad-clause-few
returns-in-Ok-default-Bad-clause-few g c = c.segments_are_short.ensures.joined c.args.first c.args.count c.requires.within

pub returns-in-Err-clause-few : goal.returns-in-Err-clause-few
returns-in-Err-clause-few g c = c.segments_are_short.ensures.joined c.args.first c.args.count c.requires.within

pub returns-clause-few : goal.returns-clause-few
returns-clause-few g c = c.segments_are_short.ensures.joined c.args.first c.args.count c.requires.within
