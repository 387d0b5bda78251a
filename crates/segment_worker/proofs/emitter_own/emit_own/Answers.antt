use Rattle.std.proofs.Common.{◌+◌, sym, ap, subst, arith, List, ℕ, length, Err}
use Rattle.byte_window.specs.Windows.{window, after}
use Rattle.byte_window.proofs.WindowParts.{is_counted}
use Rattle.output_board.specs.declared.view.EmitterView.{EmitterView}
use Rattle.segment_worker.specs.Contents.{AreShort}
use Rattle.segment_code.specs.declared.step.Step.TheVariants.{Done, Fault}
use Rattle.handover.specs.declared.outcome.Outcome.TheVariants.{Good, Bad}
use Rattle.outside_core.specs.Takes.{TakesNext}
use Rattle.outside_core.specs.Written.{HasWritten, HasFailed}
use Rattle.segment_worker.specs.OwnSegments.{IsPassing, OwnEnds}
use Rattle.segment_worker.proofs.OwnPieces.{starts_passing, piece_taken, piece_passed, piece_within, all_passed, piece_failed, owed_later, owed_done, owed_fault, ends_there}
use Rattle.segment_worker.proofs.emitter_own.emit_own.Goals as goal

pub loop-more-init : goal.loop-more-init
loop-more-init g c =
    starts_passing g.K.Sink.held g.K.Sink.takes g.K.Sink.faults g.K.Sink.full c.args.window c.args.seat.now c.args.decoder.now
    c.args.sink.now c.requires.running c.requires.owes

pub write_part-requires : goal.write_part-requires
write_part-requires g c =
    record {
      takes = subst (λ (l : List ℕ). TakesNext g.K.Sink.takes c.loop-more.sink (window (after c.args.window c.loop-more.came) l)) (sym c.bytes.ensures.bytes)
          (piece_taken g.K.Sink.held g.K.Sink.takes g.K.Sink.faults g.K.Sink.full c.args.window c.args.seat.now c.loop-more.seat
          c.args.decoder.now c.loop-more.decoder c.step-step.new.self c.args.sink.now c.loop-more.sink c.loop-more.came
          c.step-step.result c.step-step.new.out c.requires.takes c.loop-more.invariant c.step-step.ensures.pays);
    }

pub returns-in-Err-clause-ends : goal.returns-in-Err-clause-ends
returns-in-Err-clause-ends g c =
    let failed = subst (λ (l : List ℕ). HasFailed g.K.Sink.held g.K.Sink.faults g.K.Sink.full c.loop-more.sink c.write_part.new.sink (window (after c.args.window c.loop-more.came) l) c.in-Err.more)
    c.bytes.ensures.bytes c.in-Err.ensures.failed in
    subst (λ (n : ℕ). OwnEnds g.K.Sink.held g.K.Sink.takes g.K.Sink.faults g.K.Sink.full c.args.window c.args.seat.now c.loop-more.seat c.args.sink.now c.write_part.new.sink (Err (n + c.in-Err.more)))
    (sym c.through.ensures.value)
    (piece_failed g.K.Sink.held g.K.Sink.takes g.K.Sink.faults g.K.Sink.full c.args.window c.args.seat.now c.loop-more.seat c.args.decoder.now
    c.loop-more.decoder c.step-step.new.self c.args.sink.now c.loop-more.sink c.write_part.new.sink c.loop-more.came
    c.in-Err.more c.step-step.result c.step-step.new.out c.loop-more.invariant c.step-step.ensures.pays failed)

pub overflow_add-result : goal.overflow_add-result
overflow_add-result g c =
    let p = c.loop-more.invariant in
    let within = piece_within g.K.Sink.held g.K.Sink.takes g.K.Sink.faults g.K.Sink.full c.args.window c.args.seat.now c.loop-more.seat
    c.args.decoder.now c.loop-more.decoder c.step-step.new.self c.args.sink.now c.loop-more.sink c.loop-more.came
    c.step-step.result c.step-step.new.out p c.step-step.ensures.pays in
    let taken = ap (λ (x : EmitterView). x.taken) p.view in
    let room = subst AreShort (sym p.same.content) c.requires.short c.loop-more.seat.view.cur in
    let few = c.through.ensures.few in
    let short = c.in-Err.ensures.failed.short in
    let passed = (is_counted (after c.args.window c.loop-more.came) c.bytes.result.now).1 in
    let same = ap length c.bytes.ensures.bytes in
    omega (arith, within, taken, room, few, short, passed, same)

pub pass-requires-clause-within : goal.pass-requires-clause-within
pass-requires-clause-within g c =
    piece_within g.K.Sink.held g.K.Sink.takes g.K.Sink.faults g.K.Sink.full c.args.window c.args.seat.now c.loop-more.seat c.args.decoder.now
    c.loop-more.decoder c.step-step.new.self c.args.sink.now c.loop-more.sink c.loop-more.came
    c.step-step.result c.step-step.new.out c.loop-more.invariant c.step-step.ensures.pays

pub loop-more-smaller : goal.loop-more-smaller
loop-more-smaller g c =
    let p = c.loop-more.invariant in
    (owed_later c.args.seat.now.content c.args.seat.now.view.cur (c.args.seat.now.view.taken + c.loop-more.came)
    c.step-step.new.out c.loop-more.decoder c.step-step.new.self p.owes c.in-More.ensures.pays).0

pub loop-more-preserved : goal.loop-more-preserved
loop-more-preserved g c =
    let has = subst (λ (l : List ℕ). HasWritten g.K.Sink.held g.K.Sink.takes g.K.Sink.faults c.loop-more.sink c.write_part.new.sink (window (after c.args.window c.loop-more.came) l))
    c.bytes.ensures.bytes c.in_default.ensures.written in
    subst (λ (n : ℕ). IsPassing g.K.Sink.held g.K.Sink.takes g.K.Sink.faults c.args.window c.args.seat.now c.pass.new.seat c.args.decoder.now c.step-step.new.self c.args.sink.now c.write_part.new.sink (c.loop-more.came + n))
    (sym c.len.ensures.count)
    (piece_passed g.K.Sink.held g.K.Sink.takes g.K.Sink.faults g.K.Sink.full c.args.window c.args.seat.now c.loop-more.seat c.pass.new.seat c.args.decoder.now
    c.loop-more.decoder c.step-step.new.self c.args.sink.now c.loop-more.sink c.write_part.new.sink c.loop-more.came
    c.step-step.new.out c.loop-more.invariant c.in-More.ensures.pays has c.pass.ensures.same c.pass.ensures.view
    c.in-More.ensures.begun c.in-More.ensures.plans).1

pub finish_own-requires-clause-all : goal.finish_own-requires-clause-all
finish_own-requires-clause-all g c =
    let p = c.loop-more.invariant in
    (ends_there c.args.seat.now c.loop-more.seat c.pass.new.seat c.loop-more.came (length c.step-step.new.out) (Good c.in-Done.pads)
    p.same p.view c.pass.ensures.same c.pass.ensures.view
    (owed_done c.args.seat.now.content c.args.seat.now.view.cur (c.args.seat.now.view.taken + c.loop-more.came) c.in-Done.pads
    c.step-step.new.out c.loop-more.decoder c.step-step.new.self p.owes c.in-Done.ensures.pays)).0

pub finish_own-requires-clause-outcome : goal.finish_own-requires-clause-outcome
finish_own-requires-clause-outcome g c =
    let p = c.loop-more.invariant in
    (ends_there c.args.seat.now c.loop-more.seat c.pass.new.seat c.loop-more.came (length c.step-step.new.out) (Good c.in-Done.pads)
    p.same p.view c.pass.ensures.same c.pass.ensures.view
    (owed_done c.args.seat.now.content c.args.seat.now.view.cur (c.args.seat.now.view.taken + c.loop-more.came) c.in-Done.pads
    c.step-step.new.out c.loop-more.decoder c.step-step.new.self p.owes c.in-Done.ensures.pays)).1

pub returns-in-Done-clause-ends : goal.returns-in-Done-clause-ends
returns-in-Done-clause-ends g c =
    let has = subst (λ (l : List ℕ). HasWritten g.K.Sink.held g.K.Sink.takes g.K.Sink.faults c.loop-more.sink c.write_part.new.sink (window (after c.args.window c.loop-more.came) l))
    c.bytes.ensures.bytes c.in_default.ensures.written in
    rw c.len.ensures.count
    (all_passed g.K.Sink.held g.K.Sink.takes g.K.Sink.faults g.K.Sink.full c.args.window c.args.seat.now c.loop-more.seat c.pass.new.seat c.finish_own.new.seat
    c.args.decoder.now c.loop-more.decoder c.step-step.new.self c.args.sink.now c.loop-more.sink c.write_part.new.sink
    c.loop-more.came (Done c.in-Done.pads) c.step-step.new.out c.loop-more.invariant c.in-Done.ensures.pays has
    c.pass.ensures.view c.finish_own.ensures.told.0)

pub finish_own-requires-in-Fault-clause-all : goal.finish_own-requires-in-Fault-clause-all
finish_own-requires-in-Fault-clause-all g c =
    let p = c.loop-more.invariant in
    (ends_there c.args.seat.now c.loop-more.seat c.pass.new.seat c.loop-more.came (length c.step-step.new.out) (Bad c.in-Fault.fault)
    p.same p.view c.pass.ensures.same c.pass.ensures.view
    (owed_fault c.args.seat.now.content c.args.seat.now.view.cur (c.args.seat.now.view.taken + c.loop-more.came) c.in-Fault.fault
    c.step-step.new.out c.loop-more.decoder c.step-step.new.self p.owes c.in-Fault.ensures.pays)).0

pub finish_own-requires-in-Fault-clause-outcome : goal.finish_own-requires-in-Fault-clause-outcome
finish_own-requires-in-Fault-clause-outcome g c =
    let p = c.loop-more.invariant in
    (ends_there c.args.seat.now c.loop-more.seat c.pass.new.seat c.loop-more.came (length c.step-step.new.out) (Bad c.in-Fault.fault)
    p.same p.view c.pass.ensures.same c.pass.ensures.view
    (owed_fault c.args.seat.now.content c.args.seat.now.view.cur (c.args.seat.now.view.taken + c.loop-more.came) c.in-Fault.fault
    c.step-step.new.out c.loop-more.decoder c.step-step.new.self p.owes c.in-Fault.ensures.pays)).1

pub returns-in-Fault-clause-ends : goal.returns-in-Fault-clause-ends
returns-in-Fault-clause-ends g c =
    let has = subst (λ (l : List ℕ). HasWritten g.K.Sink.held g.K.Sink.takes g.K.Sink.faults c.loop-more.sink c.write_part.new.sink (window (after c.args.window c.loop-more.came) l))
    c.bytes.ensures.bytes c.in_default.ensures.written in
    rw c.len.ensures.count
    (all_passed g.K.Sink.held g.K.Sink.takes g.K.Sink.faults g.K.Sink.full c.args.window c.args.seat.now c.loop-more.seat c.pass.new.seat c.finish_own-in-Fault.new.seat
    c.args.decoder.now c.loop-more.decoder c.step-step.new.self c.args.sink.now c.loop-more.sink c.write_part.new.sink
    c.loop-more.came (Fault c.in-Fault.fault) c.step-step.new.out c.loop-more.invariant c.in-Fault.ensures.pays has
    c.pass.ensures.view c.finish_own-in-Fault.ensures.told.0)
