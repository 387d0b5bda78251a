use Rattle.std.proofs.Common.{◌≡◌, ℕ, List, sym, subst}
use Rattle.std.specs.declared.result.Result.TheVariants.{Ok}
use Rattle.outside_core.specs.Takes.{MovesOn, TakesNext}
use Rattle.photo_store.specs.FileStores.{FileCall}
use Rattle.store_run.specs.Answering.{IsReply, answer_bytes}
use Rattle.store_run.specs.Reading.{call_of}
use Rattle.store_run.specs.Turns.{reply_in}
use Rattle.store_run.proofs.Turned.{cut_turns, written_turns}
use Rattle.store_run.proofs.run.answer_asked.Goals as goal

pub returns-in-Ok-write_answer-clause-turns : goal.returns-in-Ok-write_answer-clause-turns
returns-in-Ok-write_answer-clause-turns g c =
    written_turns g.K.Sink.held g.K.Sink.takes g.K.Sink.faults g.K.Sink.full c.args.sink.now c.write_answer.new.sink
    c.args.caller.now c.answer_call.new.caller (call_of c.args.asked.now) c.in-Ok.answer
    c.in-Ok.ensures.gives c.in-Ok-write_answer.ensures.written

pub returns-in-Ok-clause-turns : goal.returns-in-Ok-clause-turns
returns-in-Ok-clause-turns g c =
    cut_turns g.K.Sink.held g.K.Sink.takes g.K.Sink.faults g.K.Sink.full c.args.sink.now c.write_answer.new.sink
    c.args.caller.now c.answer_call.new.caller (call_of c.args.asked.now) c.in-Ok.answer
    c.in-Ok.ensures.gives c.in-Err.field-0.written c.in-Err.ensures.failed

pub write_answer-requires-clause-takes : goal.write_answer-requires-clause-takes
write_answer-requires-clause-takes g c =
    let call : FileCall = call_of c.args.asked.now in
    let reply : IsReply call (Ok c.in-Ok.answer) = c.in-Ok.ensures.reply in
    let text : List ℕ = answer_bytes c.in-Ok.answer in
    let same : text ≡ reply_in reply.0 call = reply.1 in
    let back : reply_in reply.0 call ≡ text = sym same in
    subst (TakesNext g.K.Sink.takes c.args.sink.now) back (c.requires.takes reply.0)

pub returns-in-Ok-write_answer-clause-onward : goal.returns-in-Ok-write_answer-clause-onward
returns-in-Ok-write_answer-clause-onward g c =
    let call : FileCall = call_of c.args.asked.now in
    let reply : IsReply call (Ok c.in-Ok.answer) = c.in-Ok.ensures.reply in
    let text : List ℕ = answer_bytes c.in-Ok.answer in
    let same : text ≡ reply_in reply.0 call = reply.1 in (
      reply.0,
      subst (MovesOn g.K.Sink.takes c.args.sink.now c.write_answer.new.sink) same
          c.in-Ok-write_answer.ensures.written.onward,
    )
