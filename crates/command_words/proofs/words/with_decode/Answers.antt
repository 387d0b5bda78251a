use Rattle.std.proofs.Common.{ap, ap₂, ◌≡◌, ◌∙◌, ◌||◌}
use Rattle.std.proofs.lemmas.Result.{IfOk-weaker}
use Rattle.clap.specs.Words.{App, app_of, with_rule, with_subcommand}
use Rattle.command_words.specs.LeptonApp.{decode_app}
use Rattle.command_words.proofs.words.with_decode.Goals as goal

pub returns : goal.returns
returns c =
    let decode : app_of c.in_ok-decode.decode ≡ decode_app =
    c.in_ok-decode.ensures.shape c.workers_option-workers.ensures.local
    ∙ ap₂ with_rule c.new.ensures.app c.workers_option-workers.ensures.rule in
    let local = c.in_ok-decode.ensures.globals ∙ ap₂ (λ a b. a || b) c.new.ensures.local c.workers_option-workers.ensures.local in
    IfOk-weaker c.subcommand.result _ _ (λ more added.
    added.shape local ∙ ap (λ (a : App). with_subcommand (app_of c.args.known) a.top) decode) c.subcommand.ensures
