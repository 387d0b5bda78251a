use Rattle.std.proofs.Common.{◌≡◌, ℕ, List, Option, Some, inr, ap, refl, subst}
use Rattle.std.specs.Io.KnownBytes.{Consumes}
use Rattle.std.specs.declared.result.Result.TheVariants.{Ok, Err}
use Rattle.store_run.specs.Reading.{ReadsNext, call_of}
use Rattle.store_run.specs.Turns.{ending_by}
use Rattle.store_run.specs.declared.calls.Asked.{Asked}
use Rattle.store_run.specs.declared.calls.RecordStop.{RecordStop}
use Rattle.store_run.specs.declared.calls.RecordStop.TheVariants.{ReadFault}
use Rattle.store_run.specs.declared.ending.Ending.{Ending}
use Rattle.store_run.proofs.RepliesTaken.{still_takes, takes_reply}
use Rattle.store_run.proofs.Turned.{read_stops}
use Rattle.store_run.proofs.run.answer_next.Goals as goal

pub returns-in-Err-clause-turns : goal.returns-in-Err-clause-turns
returns-in-Err-clause-turns g c =
    inr (record {
      ending = ending_by c.in-Err.stop;
      is = ap (λ (e : Ending). Some e) c.ending_by.ensures;
      stops = read_stops g.S.Source.left g.K.Sink.held g.S.Source.faults g.S.Source.full g.K.Sink.faults g.K.Sink.full
          c.args.source.now c.next_call.new.source c.in-Err.stop c.in-Err.ensures.read
          (λ is. c.in-Err.ensures.read_fault (ap (λ (s : RecordStop). Err s) is))
          (λ no. c.in-Err.ensures.unfailed (λ is. let same : c.in-Err.stop ≡ ReadFault = cc in no same));
      sink = refl;
      caller = refl;
    })

pub answer_asked-requires-clause-takes : goal.answer_asked-requires-clause-takes
answer_asked-requires-clause-takes g c κs within =
    let left = g.S.Source.left in
    let old : Option (List ℕ) = left c.args.source.now in
    let new : Option (List ℕ) = left c.next_call.new.source in
    let read = subst (λ (o : Option Asked). ReadsNext old new (Ok o)) c.in-Ok-Some.field-0-is c.in-Ok-Some.ensures.read in
    takes_reply g.K.Sink.takes old new (call_of c.in-Ok-Some.asked)
    read.2.1 (subst (Consumes old new) read.2.0 read.1) c.args.sink.now c.requires.takes

pub returns-in-Ok-Some-clause-takes : goal.returns-in-Ok-Some-clause-takes
returns-in-Ok-Some-clause-takes g c =
    let left = g.S.Source.left in
    let old : Option (List ℕ) = left c.args.source.now in
    let new : Option (List ℕ) = left c.next_call.new.source in
    let read = subst (λ (o : Option Asked). ReadsNext old new (Ok o)) c.in-Ok-Some.field-0-is c.in-Ok-Some.ensures.read in
    still_takes g.K.Sink.takes old new (call_of c.in-Ok-Some.asked)
    read.2.1 (subst (Consumes old new) read.2.0 read.1) c.answer_asked.result c.args.sink.now c.answer_asked.new.sink
    c.requires.takes c.answer_asked.ensures.onward
