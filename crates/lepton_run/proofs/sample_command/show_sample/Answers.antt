use Rattle.std.proofs.Common.{List, [], ℕ, subst, sym}
use Rattle.command_words.specs.declared.command.Command.TheVariants.{Sample}
use Rattle.lepton_run.specs.Answers.{Answers, Made}
use Rattle.lepton_run.proofs.SamplesCoded.{answer_so}
use Rattle.lepton_run.proofs.sample_command.show_sample.Goals as goal

pub returns-clause-ending : goal.returns-clause-ending
returns-clause-ending g c =
    let command = Sample c.args.seed c.args.columns c.args.rows in
    c.write_made.ensures.ending command []
    (subst (λ (text : List ℕ). Answers command [] (Made text)) (sym c.bytes.ensures)
    (answer_so g.K.Sink.held g.K.Sink.faults g.K.Sink.full c.args.sink.now c.write_made.new.sink
    c.args.seed c.args.columns c.args.rows c.in-Ok.summary c.in-Ok.ensures))

pub write_made-requires : goal.write_made-requires
write_made-requires g c =
    let text = c.in-Ok.summary in
    record {
      takes = subst (g.K.Sink.takes c.args.sink.now) (sym c.bytes.ensures)
          (c.requires.takes (Made text) (answer_so g.K.Sink.held g.K.Sink.faults g.K.Sink.full c.args.sink.now
          c.args.sink.now c.args.seed c.args.columns c.args.rows text c.in-Ok.ensures));
    }
