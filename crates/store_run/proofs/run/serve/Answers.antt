use Rattle.std.proofs.Common.{◌≡◌, ℕ, Option, [], ◌∷◌, ◌∙◌, subst, arith}
use Rattle.std.specs.Prelude.{IfSome}
use Rattle.std.specs.Io.KnownBytes.{Consumes}
use Rattle.blob_store.specs.States.{HasRisen}
use Rattle.blob_store.proofs.Risen.{risen_wider}
use Rattle.store_run.specs.Records.{most_records}
use Rattle.store_run.specs.Turns.{IsServing, Turns}
use Rattle.store_run.specs.declared.ending.Ending.{Ending}
use Rattle.store_run.proofs.Served.{last_failed, last_keeps_failed, last_keeps_full, sole_before, turn_ends, turn_keeps, turn_serves}
use Rattle.store_run.proofs.run.serve.Goals as goal

pub returns-in-Some-clause-ends : goal.returns-in-Some-clause-ends
returns-in-Some-clause-ends g c = λ sole.
    let before = c.loop.invariant.serving (sole_before c.loop.caller c.answer_next.new.caller c.in-Some.ensures.later.seen sole) in
    let below = c.loop.invariant.same.faults in
    turn_ends g.S.Source.left g.K.Sink.held g.S.Source.faults g.S.Source.full g.K.Sink.faults g.K.Sink.full
    c.args.source.now c.loop.source c.answer_next.new.source c.args.sink.now c.loop.sink c.answer_next.new.sink
    c.loop.caller c.answer_next.new.caller c.loop.counter before
    (HasRisen c.args.caller.now.view.faults c.answer_next.new.caller.view.faults) c.in-Some.ending
    (omega (arith, c.loop-test.true)) sole (λ rise. risen_wider _ _ _ _ below rise (omega arith)) c.in-Some.ensures.turns

pub loop-preserved : goal.loop-preserved
loop-preserved g c =
    let was = c.loop.invariant in
    let later = c.in_default.ensures.later in
    let below = was.same.faults in
    let rises = later.faults in
    let source = was.source_lasting in
    let sink = was.sink_lasting in
    let source_later = c.in_default.ensures.source_lasting in
    let sink_later = c.in_default.ensures.sink_lasting in
    let turns = subst (λ (r : Option Ending). Turns g.S.Source.left g.K.Sink.held g.S.Source.faults g.S.Source.full g.K.Sink.faults g.K.Sink.full
    c.loop.source c.answer_next.new.source c.loop.sink c.answer_next.new.sink c.loop.caller c.answer_next.new.caller r)
    c.in_default.is c.answer_next.ensures.turns in
    record {
      same = record {
        table = later.table ∙ was.same.table;
        number = later.number ∙ was.same.number;
        splits = later.splits ∙ was.same.splits;
        faults = omega (arith, below, rises);
      };
      source_lasting = omega (arith, source, source_later);
      sink_lasting = omega (arith, sink, sink_later);
      readable = c.in_default.ensures.readable;
      takes = c.in_default.ensures.takes;
      serving = λ sole.
          turn_serves g.S.Source.left g.K.Sink.held g.S.Source.faults g.S.Source.full g.K.Sink.faults g.K.Sink.full
          c.args.source.now c.loop.source c.answer_next.new.source c.args.sink.now c.loop.sink c.answer_next.new.sink
          c.loop.caller c.answer_next.new.caller c.loop.counter
          (was.serving (sole_before c.loop.caller c.answer_next.new.caller later.seen sole)) later sole turns;
    }

pub returns-in-Err-clause-ends : goal.returns-in-Err-clause-ends
returns-in-Err-clause-ends g c = λ sole.
    let test = c.loop-test.false in
    let end = c.loop.auto.counter-end in
    let all : c.loop.counter ≡ most_records = omega (arith, test, end) in
    last_failed g.S.Source.left g.K.Sink.held g.S.Source.faults g.S.Source.full g.K.Sink.faults g.K.Sink.full
    c.args.source.now c.loop.source c.next_byte.new.source c.args.sink.now c.loop.sink c.loop.caller
    (subst (λ (n : ℕ). IsServing g.S.Source.left g.K.Sink.held g.S.Source.faults g.S.Source.full g.K.Sink.faults g.K.Sink.full
    c.args.source.now c.loop.source c.args.sink.now c.loop.sink c.loop.caller n) all (c.loop.invariant.serving sole))
    (HasRisen c.args.caller.now.view.faults c.loop.caller.view.faults) c.in-Err.ensures.stays c.in-Err.ensures.failed

pub returns-in-Some-clause-kept : goal.returns-in-Some-clause-kept
returns-in-Some-clause-kept g c = λ sole.
    let before = c.loop.invariant.serving (sole_before c.loop.caller c.answer_next.new.caller c.in-Some.ensures.later.seen sole) in
    turn_keeps g.S.Source.left g.K.Sink.held g.S.Source.faults g.S.Source.full g.K.Sink.faults g.K.Sink.full
    c.args.source.now c.loop.source c.answer_next.new.source c.args.sink.now c.loop.sink c.answer_next.new.sink
    c.loop.caller c.answer_next.new.caller c.loop.counter before
    c.in-Some.ending (omega (arith, c.loop-test.true)) sole c.in-Some.ensures.turns

pub returns-in-Err-clause-kept : goal.returns-in-Err-clause-kept
returns-in-Err-clause-kept g c = λ sole.
    let test = c.loop-test.false in
    let end = c.loop.auto.counter-end in
    let all : c.loop.counter ≡ most_records = omega (arith, test, end) in
    last_keeps_failed g.S.Source.left g.K.Sink.held g.S.Source.faults g.S.Source.full g.K.Sink.faults g.K.Sink.full
    c.args.source.now c.loop.source c.next_byte.new.source c.args.sink.now c.loop.sink c.loop.caller
    (subst (λ (n : ℕ). IsServing g.S.Source.left g.K.Sink.held g.S.Source.faults g.S.Source.full g.K.Sink.faults g.K.Sink.full
    c.args.source.now c.loop.source c.args.sink.now c.loop.sink c.loop.caller n) all (c.loop.invariant.serving sole))
    c.in-Err.ensures.stays

pub returns-in-Ok-Some-clause-kept : goal.returns-in-Ok-Some-clause-kept
returns-in-Ok-Some-clause-kept g c = λ sole.
    let test = c.loop-test.false in
    let end = c.loop.auto.counter-end in
    let all : c.loop.counter ≡ most_records = omega (arith, test, end) in
    last_keeps_full g.S.Source.left g.K.Sink.held g.S.Source.faults g.S.Source.full g.K.Sink.faults g.K.Sink.full
    c.args.source.now c.loop.source c.next_byte.new.source c.args.sink.now c.loop.sink c.loop.caller
    (subst (λ (n : ℕ). IsServing g.S.Source.left g.K.Sink.held g.S.Source.faults g.S.Source.full g.K.Sink.faults g.K.Sink.full
    c.args.source.now c.loop.source c.args.sink.now c.loop.sink c.loop.caller n) all (c.loop.invariant.serving sole))
    c.in-Ok-Some.field-0-0
    (subst (λ (o : Option ℕ). IfSome o (λ b.
    Consumes (g.S.Source.left c.loop.source) (g.S.Source.left c.next_byte.new.source) (b ∷ [])))
    c.in-Ok-Some.field-0-is c.in-Ok-Some.ensures.read)
