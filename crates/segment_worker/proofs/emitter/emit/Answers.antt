use Rattle.std.proofs.lemmas.List.{length-replicate}
use Rattle.std.proofs.Common.{rules, ◌≡◌, ◌+◌, ◌∙◌, sym, ap, subst, arith, ℕ, length, Ok, Err}
use Rattle.outside_core.specs.Takes.{TakesNext}
use Rattle.byte_window.specs.declared.window.Window.{Window}
use Rattle.byte_window.specs.Windows.{window}
use Rattle.output_board.specs.declared.view.EmitterView.{EmitterView}
use Rattle.container_spec.specs.ScansMeanings.{scan_of}
use Rattle.handover.specs.ScanSums.{sums_of, sums_with}
use Rattle.segment_worker.proofs.Emissions.{starts_emitting, taken_next, own_next, bytes_taken, taken_failed, good_taken, good_cur, good_within, bad_taken, same_emitted, own_emitted, own_failed, all_came, all_emitted}
use Rattle.segment_worker.proofs.ContentsTold.{bytes_long}
use Rattle.segment_worker.specs.Contents.{Stretch, stretch}
use Rattle.outside_core.specs.Written.{HasFailed}
use Rattle.segment_worker.specs.OwnSegments.{OwnEnds, own_rest}
use Rattle.segment_worker.specs.Emitting.{Emits, joined_in, seen_through}
use Rattle.segment_worker.proofs.emitter.emit.Goals as goal

pub loop-init : goal.loop-init
loop-init g c = record {
  emitting = rw (c.no_sums-pads.ensures)
      (starts_emitting g.K.Sink.held g.K.Sink.takes g.K.Sink.faults g.K.Sink.full c.args.board.now (stretch c.args.view.now c.args.first c.args.count) c.args.window
      c.args.seat.now c.args.decoder.now c.args.sink.now c.requires.new);
  current = sym c.requires.new.cur;
  some = let long = length-replicate {A = ℕ} 4096 0 in omega (arith, long);
}

pub write_part-requires : goal.write_part-requires
write_part-requires g c =
    let same : length c.take.new.buf ≡ length c.loop.buffer = search rules in
    record {
      takes = taken_next g.K.Sink.held g.K.Sink.takes g.K.Sink.faults g.K.Sink.full c.args.board.now (stretch c.args.view.now c.args.first c.args.count) c.args.window c.loop.seat
          c.take.new.seat c.loop.decoder c.args.sink.now c.loop.sink c.loop.came c.in-Bytes.taken c.loop.pads c.loop.buffer
          c.take.new.buf c.requires.takes c.loop.invariant.emitting c.in-Bytes.ensures.answer same;
    }

pub returns-in-Err-clause-ends : goal.returns-in-Err-clause-ends
returns-in-Err-clause-ends g c =
    let same : length c.take.new.buf ≡ length c.loop.buffer = search rules in
    subst (λ (n : ℕ). HasFailed g.K.Sink.held g.K.Sink.faults g.K.Sink.full c.args.sink.now c.write_part.new.sink
    (window c.args.window (joined_in (stretch c.args.view.now c.args.first c.args.count)).bytes) (n + c.in-Err.more)) (sym c.through.ensures.value)
    (taken_failed g.K.Sink.held g.K.Sink.takes g.K.Sink.faults g.K.Sink.full c.args.board.now (stretch c.args.view.now c.args.first c.args.count) c.args.window c.loop.seat c.take.new.seat
    c.loop.decoder c.args.sink.now c.loop.sink c.write_part.new.sink c.loop.came c.in-Bytes.taken c.in-Err.more
    c.loop.pads c.loop.buffer c.take.new.buf c.loop.invariant.emitting c.in-Bytes.ensures.answer same
    c.in-Err.ensures.failed)

pub loop-preserved-in-Bytes : goal.loop-preserved-in-Bytes
loop-preserved-in-Bytes g c =
    let same : length c.take.new.buf ≡ length c.loop.buffer = search rules in
    record {
      emitting = bytes_taken g.K.Sink.held g.K.Sink.takes g.K.Sink.faults g.K.Sink.full c.args.board.now (stretch c.args.view.now c.args.first c.args.count) c.args.window c.loop.seat
          c.take.new.seat c.loop.decoder c.args.sink.now c.loop.sink c.write_part.new.sink c.loop.came c.in-Bytes.taken
          c.loop.pads c.loop.buffer c.take.new.buf c.loop.invariant.emitting c.take.ensures.hold c.in-Bytes.ensures.answer same
          c.in_default.ensures.written;
      current = c.loop.invariant.current ∙ sym (ap (λ (x : EmitterView). x.cur) c.in-Bytes.ensures.answer.0);
      some = let some = c.loop.invariant.some in omega (arith, some, same);
    }

pub segment_at-scan-requires : goal.segment_at-scan-requires
segment_at-scan-requires g c =
    let under = good_within g.K.Sink.held g.K.Sink.takes g.K.Sink.faults g.K.Sink.full c.args.board.now (stretch c.args.view.now c.args.first c.args.count) c.args.window c.loop.seat
    c.take.new.seat c.in-Ended-Good.more _ c.loop.buffer c.take.new.buf c.loop.invariant.emitting.used.content
    c.in-Ended-Good.field-0-is c.in-Ended-Good.ensures.answer in
    let current = c.loop.invariant.current in
    let within = c.requires.within in
    omega (arith, under, current, within)

pub loop-preserved-in-Ended-Good : goal.loop-preserved-in-Ended-Good
loop-preserved-in-Ended-Good g c =
    let same : length c.take.new.buf ≡ length c.loop.buffer = search rules in
    record {
      emitting = good_taken g.K.Sink.held g.K.Sink.takes g.K.Sink.faults g.K.Sink.full c.args.board.now (stretch c.args.view.now c.args.first c.args.count) c.args.window (c.segments_are_short.ensures.short c.args.first c.args.count c.requires.within)
          c.loop.seat c.take.new.seat c.loop.decoder c.args.sink.now c.loop.sink c.loop.came c.loop.pads
          c.in-Ended-Good.more _ _ c.loop.buffer c.take.new.buf c.loop.invariant.emitting c.take.ensures.hold
          c.in-Ended-Good.field-0-is
          (c.add_sum.ensures
          ∙ ap (λ (k : ℕ). sums_with c.loop.pads (sums_of k c.in-Ended-Good.more))
          (c.segment_at-scan.ensures.scan
          ∙ ap (λ (n : ℕ). scan_of 0 c.args.view.now (c.args.first + n)) c.loop.invariant.current))
          c.in-Ended-Good.ensures.answer;
      current = ap (λ (n : ℕ). n + 1) c.loop.invariant.current
          ∙ sym (good_cur g.K.Sink.held g.K.Sink.takes g.K.Sink.faults g.K.Sink.full c.args.board.now (stretch c.args.view.now c.args.first c.args.count) c.args.window c.loop.seat
          c.take.new.seat c.in-Ended-Good.more _ c.loop.buffer c.take.new.buf c.in-Ended-Good.field-0-is
          c.in-Ended-Good.ensures.answer);
      some = let some = c.loop.invariant.some in omega (arith, some, same);
    }

pub returns-in-Ended-Bad-clause-ends : goal.returns-in-Ended-Bad-clause-ends
returns-in-Ended-Bad-clause-ends g c =
    bad_taken g.K.Sink.held g.K.Sink.takes g.K.Sink.faults g.K.Sink.full c.args.board.now (stretch c.args.view.now c.args.first c.args.count) c.args.window c.loop.seat c.take.new.seat
    c.loop.decoder c.args.sink.now c.loop.sink c.loop.came c.loop.pads c.in-Ended-Bad.fault _ c.loop.buffer
    c.take.new.buf c.loop.invariant.emitting c.in-Ended-Bad.field-0-is c.in-Ended-Bad.ensures.answer

pub emit_unclaimed-requires-clause-takes : goal.emit_unclaimed-requires-clause-takes
emit_unclaimed-requires-clause-takes g c =
    let a = c.in-Unclaimed.ensures.answer in
    subst (λ (w : Window). TakesNext g.K.Sink.takes c.loop.sink (window w (own_rest c.take.new.seat))) (sym c.after-rest.ensures)
    (own_next g.K.Sink.held g.K.Sink.takes g.K.Sink.faults g.K.Sink.full c.args.board.now (stretch c.args.view.now c.args.first c.args.count) c.args.window c.take.new.seat
    c.loop.decoder c.args.sink.now c.loop.sink c.loop.came c.loop.pads c.requires.takes
    (same_emitted g.K.Sink.held g.K.Sink.takes g.K.Sink.faults g.K.Sink.full c.args.board.now (stretch c.args.view.now c.args.first c.args.count) c.args.window c.loop.seat
    c.take.new.seat c.loop.decoder c.args.sink.now c.loop.sink c.loop.came c.loop.pads c.loop.invariant.emitting
    c.take.ensures.hold a.3.0.claims a.0))

pub loop-preserved-in-Ok : goal.loop-preserved-in-Ok
loop-preserved-in-Ok g c =
    let same : length c.take.new.buf ≡ length c.loop.buffer = search rules in
    let a = c.in-Unclaimed.ensures.answer in
    let took = same_emitted g.K.Sink.held g.K.Sink.takes g.K.Sink.faults g.K.Sink.full c.args.board.now (stretch c.args.view.now c.args.first c.args.count) c.args.window c.loop.seat
    c.take.new.seat c.loop.decoder c.args.sink.now c.loop.sink c.loop.came c.loop.pads c.loop.invariant.emitting
    c.take.ensures.hold a.3.0.claims a.0 in
    record {
      emitting = own_emitted g.K.Sink.held g.K.Sink.takes g.K.Sink.faults g.K.Sink.full c.args.board.now (stretch c.args.view.now c.args.first c.args.count) c.args.window c.take.new.seat
          c.emit_unclaimed.new.seat c.loop.decoder c.emit_unclaimed.new.decoder c.args.sink.now c.loop.sink
          c.emit_unclaimed.new.sink c.loop.came c.in-Ok.passed c.loop.pads took
          (subst (λ (w : Window). OwnEnds g.K.Sink.held g.K.Sink.takes g.K.Sink.faults g.K.Sink.full w c.take.new.seat c.emit_unclaimed.new.seat c.loop.sink c.emit_unclaimed.new.sink (Ok c.in-Ok.passed))
          c.after-rest.ensures c.in-Ok.ensures.ends)
          c.in-Ok.ensures.own c.in-Ok.ensures.content c.in-Ok.ensures.begun c.in-Ok.ensures.plans;
      current = c.loop.invariant.current ∙ sym (ap (λ (x : EmitterView). x.cur) a.0)
          ∙ sym (ap (λ (x : EmitterView). x.cur) c.in-Ok.ensures.ends.2);
      some = let some = c.loop.invariant.some in omega (arith, some, same);
    }

pub returns-in-Err-emit_unclaimed-clause-ends : goal.returns-in-Err-emit_unclaimed-clause-ends
returns-in-Err-emit_unclaimed-clause-ends g c =
    let a = c.in-Unclaimed.ensures.answer in
    let took = same_emitted g.K.Sink.held g.K.Sink.takes g.K.Sink.faults g.K.Sink.full c.args.board.now (stretch c.args.view.now c.args.first c.args.count) c.args.window c.loop.seat
    c.take.new.seat c.loop.decoder c.args.sink.now c.loop.sink c.loop.came c.loop.pads c.loop.invariant.emitting
    c.take.ensures.hold a.3.0.claims a.0 in
    subst (λ (n : ℕ). HasFailed g.K.Sink.held g.K.Sink.faults g.K.Sink.full c.args.sink.now c.emit_unclaimed.new.sink
    (window c.args.window (joined_in (stretch c.args.view.now c.args.first c.args.count)).bytes) (n + c.in-Err-emit_unclaimed.more)) (sym c.through-in-Err-emit_unclaimed.ensures.value)
    (own_failed g.K.Sink.held g.K.Sink.takes g.K.Sink.faults g.K.Sink.full c.args.board.now (stretch c.args.view.now c.args.first c.args.count) c.args.window c.take.new.seat
    c.emit_unclaimed.new.seat c.loop.decoder c.args.sink.now c.loop.sink c.emit_unclaimed.new.sink c.loop.came
    c.in-Err-emit_unclaimed.more c.loop.pads took
    (subst (λ (w : Window). OwnEnds g.K.Sink.held g.K.Sink.takes g.K.Sink.faults g.K.Sink.full w c.take.new.seat c.emit_unclaimed.new.seat c.loop.sink c.emit_unclaimed.new.sink (Err c.in-Err-emit_unclaimed.more))
    c.after-rest.ensures c.in-Err-emit_unclaimed.ensures.ends))

pub returns-in-Over-clause-ends : goal.returns-in-Over-clause-ends
returns-in-Over-clause-ends g c =
    let a = c.in-Over.ensures.answer in
    let e = c.loop.invariant.emitting in
    let over = sym a.3.1 ∙ a.4 ∙ bytes_long c.loop.seat.content
    ∙ ap (λ (v : Stretch). v.count) e.used.content in
    subst (λ (n : ℕ). Emits g.K.Sink.held g.K.Sink.takes g.K.Sink.faults g.K.Sink.full c.args.sink.now c.loop.sink
    (seen_through c.args.window (joined_in (stretch c.args.view.now c.args.first c.args.count))) (Ok (record { bytes = n; came = c.loop.came; pads = c.loop.pads })))
    (sym c.through-in-Over.ensures.value)
    (all_emitted g.K.Sink.held g.K.Sink.takes g.K.Sink.faults g.K.Sink.full (stretch c.args.view.now c.args.first c.args.count) c.args.window c.loop.seat.view.cur c.loop.seat.view.taken
    c.args.sink.now c.loop.sink c.loop.came c.loop.pads e.so_far over)

pub returns-in-Over-clause-came : goal.returns-in-Over-clause-came
returns-in-Over-clause-came g c =
    let a = c.in-Over.ensures.answer in
    let e = c.loop.invariant.emitting in
    let over = sym a.3.1 ∙ a.4 ∙ bytes_long c.loop.seat.content
    ∙ ap (λ (v : Stretch). v.count) e.used.content in
    all_came g.K.Sink.held g.K.Sink.takes g.K.Sink.faults g.K.Sink.full (stretch c.args.view.now c.args.first c.args.count) c.args.window c.loop.seat.view.cur c.loop.seat.view.taken
    c.args.sink.now c.loop.sink c.loop.came c.loop.pads e.so_far over

pub returns-in-Over-clause-through : goal.returns-in-Over-clause-through
returns-in-Over-clause-through g c =
    let a = c.in-Over.ensures.answer in
    let e = c.loop.invariant.emitting in
    let over = sym a.3.1 ∙ a.4 ∙ bytes_long c.loop.seat.content
    ∙ ap (λ (v : Stretch). v.count) e.used.content in
    record {
      cur = ap (λ (x : EmitterView). x.cur) a.0 ∙ over;
      going = ap (λ (x : EmitterView). x.stopped) a.0 ∙ e.going;
    }

pub returns-in-Err-clause-few : goal.returns-in-Err-clause-few
returns-in-Err-clause-few g c = c.segments_are_short.ensures.joined c.args.first c.args.count c.requires.within

pub returns-in-Ended-Bad-clause-few : goal.returns-in-Ended-Bad-clause-few
returns-in-Ended-Bad-clause-few g c = c.segments_are_short.ensures.joined c.args.first c.args.count c.requires.within

pub returns-in-Err-emit_unclaimed-clause-few : goal.returns-in-Err-emit_unclaimed-clause-few
returns-in-Err-emit_unclaimed-clause-few g c = c.segments_are_short.ensures.joined c.args.first c.args.count c.requires.within

pub returns-in-Over-clause-few : goal.returns-in-Over-clause-few
returns-in-Over-clause-few g c = c.segments_are_short.ensures.joined c.args.first c.args.count c.requires.within
