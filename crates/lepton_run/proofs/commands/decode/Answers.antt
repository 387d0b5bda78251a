use Rattle.std.proofs.Common.{rules, ap, sym, subst, Err}
use Rattle.bool_coder.proofs.FirstBits.{all_bytes}
use Rattle.box_format.specs.declared.error.ReadError.{ReadError}
use Rattle.command_words.specs.declared.command.Command.TheVariants.{Decode}
use Rattle.lepton_run.specs.CommandEnds.{CarriedOut}
use Rattle.lepton_run.specs.declared.ending.Ending.{Ending}
use Rattle.lepton_run.proofs.CarriedOut.{no_box, ended, meaning_taken}
use Rattle.lepton_run.proofs.commands.decode.Goals as goal

pub returns-in-Err-Box-clause-ending : goal.returns-in-Err-Box-clause-ending
returns-in-Err-Box-clause-ending g c =
    no_box g.K.Sink.held g.K.Sink.faults g.K.Sink.full c.args.sink.now c.args.sink.now
    c.args.bytes.now (all_bytes c.args.bytes.now (λ i. search rules)) c.args.workers
    c.in-Err-Box.refusal c.requires.short
    (c.in-Err-Box.ensures.refused c.in-Err-Box.refusal
    (ap (λ (error : ReadError). Err error) c.in-Err-Box.field-0-is))

pub returns-clause-ending : goal.returns-clause-ending
returns-clause-ending g c =
    subst (λ (ending : Ending). CarriedOut g.K.Sink.held g.K.Sink.faults g.K.Sink.full
    (Decode c.args.workers) c.args.bytes.now c.args.sink.now c.run-ended.new.sink ending)
    (sym c.ending_by.ensures.ending)
    (ended g.K.Sink.held g.K.Sink.faults g.K.Sink.full c.args.sink.now c.run-ended.new.sink
    c.args.bytes.now (all_bytes c.args.bytes.now (λ i. search rules)) g.K.Sink.takes c.args.workers c.requires.short
    c.in-Ok.ready.scans c.in-Ok.ensures.ready c.run-ended.result c.run-ended.ensures.ends)

pub run-ended-requires-clause-takes : goal.run-ended-requires-clause-takes
run-ended-requires-clause-takes g c κs within =
    meaning_taken g.K.Sink.held g.K.Sink.faults g.K.Sink.full c.args.sink.now c.args.sink.now
    c.args.bytes.now (all_bytes c.args.bytes.now (λ i. search rules)) g.K.Sink.takes c.args.workers c.requires.short
    c.in-Ok.ready.scans c.in-Ok.ensures.ready c.requires.takes
