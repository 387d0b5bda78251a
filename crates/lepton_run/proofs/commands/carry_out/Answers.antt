use Rattle.std.proofs.Common.{◌≡◌, subst}
use Rattle.command_words.specs.declared.command.Command.{Command}
use Rattle.command_words.specs.declared.command.Command.TheVariants.{Range}
use Rattle.lepton_run.specs.Answers.{TakesAnswers}
use Rattle.lepton_run.proofs.commands.carry_out.Goals as goal

pub range_alone-requires-clause-takes : goal.range_alone-requires-clause-takes
range_alone-requires-clause-takes g c =
    let r = c.in-Range-default-default-eq0 in
    let same : c.args.command ≡ Range r.from r.to 0 = cc in
    subst (λ (command : Command). TakesAnswers g.K.Sink.takes command c.args.bytes.now c.args.sink.now)
    same c.requires.takes

pub range-requires-clause-takes : goal.range-requires-clause-takes
range-requires-clause-takes g c κs within =
    let r = c.in-Range in
    let same : c.args.command ≡ Range r.from r.to r.workers = cc in
    subst (λ (command : Command). TakesAnswers g.K.Sink.takes command c.args.bytes.now c.args.sink.now)
    same c.requires.takes
