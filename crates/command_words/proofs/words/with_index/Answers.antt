use Rattle.std.proofs.Common.{ap, ◌∙◌}
use Rattle.std.proofs.lemmas.Result.{IfOk-weaker}
use Rattle.clap.specs.Words.{App, app_of, with_subcommand}
use Rattle.command_words.proofs.words.with_index.Goals as goal

pub returns : goal.returns
returns c =
    IfOk-weaker c.subcommand.result _ _ (λ more added. added.shape c.new.ensures.local
    ∙ ap (λ (a : App). with_subcommand (app_of c.args.known) a.top) c.new.ensures.app)
    c.subcommand.ensures
