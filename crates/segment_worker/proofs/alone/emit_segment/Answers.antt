use Rattle.std.proofs.Common.{◌+◌, sym, ap, subst, arith, List, ℕ, length}
use Rattle.outside_core.specs.Takes.{TakesNext}
use Rattle.byte_window.specs.Windows.{window, after}
use Rattle.byte_window.proofs.WindowParts.{is_counted}
use Rattle.outside_core.specs.Written.{HasWritten, HasFailed}
use Rattle.segment_worker.proofs.LonePieces.{none_written, piece_taken, more_written, all_written, done_last, fault_last, write_failed, piece_fits}
use Rattle.segment_code.specs.declared.step.Step.TheVariants.{Done, Fault}
use Rattle.segment_worker.proofs.alone.emit_segment.Goals as goal

pub loop-more-init : goal.loop-more-init
loop-more-init g c =
    none_written g.K.Sink.held g.K.Sink.takes g.K.Sink.faults g.K.Sink.full c.args.window c.args.decoder.now c.args.sink.now
    c.requires.running c.requires.owes.0

pub write_part-requires : goal.write_part-requires
write_part-requires g c =
    record {
      takes = subst (λ (l : List ℕ). TakesNext g.K.Sink.takes c.loop-more.sink (window (after c.args.window c.loop-more.came) l)) (sym c.bytes.ensures.bytes)
          (piece_taken g.K.Sink.held g.K.Sink.takes g.K.Sink.faults g.K.Sink.full c.args.window c.step-step.result c.args.decoder.now
          c.loop-more.decoder c.step-step.new.self c.args.sink.now c.loop-more.sink c.loop-more.came
          c.step-step.new.out c.requires.owes.0 c.requires.owes.1 c.loop-more.invariant c.step-step.ensures.pays);
    }

pub loop-more-preserved : goal.loop-more-preserved
loop-more-preserved g c =
    let has = subst (λ (l : List ℕ). HasWritten g.K.Sink.held g.K.Sink.takes g.K.Sink.faults c.loop-more.sink c.write_part.new.sink (window (after c.args.window c.loop-more.came) l))
    c.bytes.ensures.bytes c.in_default.ensures.written in
    (more_written g.K.Sink.held g.K.Sink.takes g.K.Sink.faults g.K.Sink.full c.args.window c.args.decoder.now c.loop-more.decoder
    c.step-step.new.self c.args.sink.now c.loop-more.sink c.write_part.new.sink c.loop-more.came
    c.step-step.new.out c.len.result c.loop-more.invariant c.in-More.ensures.pays has
    c.len.ensures.count c.len.ensures.within
    c.in-More.ensures.begun c.in-More.ensures.plans).1

pub loop-more-smaller : goal.loop-more-smaller
loop-more-smaller g c =
    let some = c.loop-more.invariant.some in
    (c.in-More.ensures.pays some.bytes some.outcome some.owes).2

pub returns-in-Err-clause-ends : goal.returns-in-Err-clause-ends
returns-in-Err-clause-ends g c = λ bytes outcome owes.
    let failed = subst (λ (l : List ℕ). HasFailed g.K.Sink.held g.K.Sink.faults g.K.Sink.full c.loop-more.sink c.write_part.new.sink (window (after c.args.window c.loop-more.came) l) c.in-Err.more)
    c.bytes.ensures.bytes c.in-Err.ensures.failed in
    subst (λ (n : ℕ). HasFailed g.K.Sink.held g.K.Sink.faults g.K.Sink.full c.args.sink.now c.write_part.new.sink (window c.args.window bytes) (n + c.in-Err.more))
    (sym c.through.ensures.value)
    (write_failed g.K.Sink.held g.K.Sink.takes g.K.Sink.faults g.K.Sink.full c.args.window c.step-step.result c.args.decoder.now c.loop-more.decoder
    c.step-step.new.self c.args.sink.now c.loop-more.sink c.write_part.new.sink c.loop-more.came c.in-Err.more
    c.step-step.new.out c.loop-more.invariant c.step-step.ensures.pays failed bytes outcome owes)

pub returns-in-Done-clause-ends : goal.returns-in-Done-clause-ends
returns-in-Done-clause-ends g c =
    let has = subst (λ (l : List ℕ). HasWritten g.K.Sink.held g.K.Sink.takes g.K.Sink.faults c.loop-more.sink c.write_part.new.sink (window (after c.args.window c.loop-more.came) l))
    c.bytes.ensures.bytes c.in_default.ensures.written in
    all_written g.K.Sink.held g.K.Sink.takes g.K.Sink.faults g.K.Sink.full c.args.window (Done c.in-Done.pads) c.args.decoder.now
    c.loop-more.decoder c.step-step.new.self c.args.sink.now c.loop-more.sink c.write_part.new.sink
    c.loop-more.came c.step-step.new.out c.len.result _ c.loop-more.invariant c.in-Done.ensures.pays
    (done_last g.K.Sink.held g.K.Sink.takes g.K.Sink.faults g.K.Sink.full c.args.window c.in-Done.pads c.step-step.new.out c.loop-more.decoder c.step-step.new.self)
    has c.len.ensures.count

pub returns-in-Fault-clause-ends : goal.returns-in-Fault-clause-ends
returns-in-Fault-clause-ends g c =
    let has = subst (λ (l : List ℕ). HasWritten g.K.Sink.held g.K.Sink.takes g.K.Sink.faults c.loop-more.sink c.write_part.new.sink (window (after c.args.window c.loop-more.came) l))
    c.bytes.ensures.bytes c.in_default.ensures.written in
    all_written g.K.Sink.held g.K.Sink.takes g.K.Sink.faults g.K.Sink.full c.args.window (Fault c.in-Fault.fault) c.args.decoder.now
    c.loop-more.decoder c.step-step.new.self c.args.sink.now c.loop-more.sink c.write_part.new.sink
    c.loop-more.came c.step-step.new.out c.len.result _ c.loop-more.invariant c.in-Fault.ensures.pays
    (fault_last g.K.Sink.held g.K.Sink.takes g.K.Sink.faults g.K.Sink.full c.args.window c.in-Fault.fault c.step-step.new.out c.loop-more.decoder c.step-step.new.self)
    has c.len.ensures.count

pub returns-in-Err-clause-short : goal.returns-in-Err-clause-short
returns-in-Err-clause-short g c =
    let within = c.bytes.ensures.within in
    let few = c.through.ensures.few in
    let short = c.in-Err.ensures.failed.short in
    let passed = (is_counted (after c.args.window c.loop-more.came) c.bytes.result.now).1 in
    let same = ap length c.bytes.ensures.bytes in
    let room = piece_fits g.K.Sink.held g.K.Sink.takes g.K.Sink.faults g.K.Sink.full c.args.window c.args.decoder.now c.loop-more.decoder c.args.sink.now
    c.loop-more.sink c.loop-more.came c.in-Err.more c.loop-more.invariant (omega (arith, within, short, passed, same)) c.requires.few in
    omega (arith, few, room)

pub overflow_add-result : goal.overflow_add-result
overflow_add-result g c =
    let within = c.bytes.ensures.within in
    let few = c.through.ensures.few in
    let short = c.in-Err.ensures.failed.short in
    let passed = (is_counted (after c.args.window c.loop-more.came) c.bytes.result.now).1 in
    let same = ap length c.bytes.ensures.bytes in
    let room = piece_fits g.K.Sink.held g.K.Sink.takes g.K.Sink.faults g.K.Sink.full c.args.window c.args.decoder.now c.loop-more.decoder c.args.sink.now
    c.loop-more.sink c.loop-more.came c.in-Err.more c.loop-more.invariant (omega (arith, within, short, passed, same)) c.requires.few in
    omega (arith, few, room)
