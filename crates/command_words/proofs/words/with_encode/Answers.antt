use Rattle.std.proofs.Common.{ap, ap₂, ◌≡◌, ◌∙◌, ◌||◌}
use Rattle.std.proofs.lemmas.Result.{IfOk-weaker}
use Rattle.clap.specs.Words.{App, app_of, with_rule, with_subcommand}
use Rattle.command_words.specs.LeptonApp.{encode_app}
use Rattle.command_words.proofs.words.with_encode.Goals as goal

pub returns : goal.returns
returns c =
    let encode : app_of c.in_ok-encode.encode ≡ encode_app =
    c.in_ok-encode.ensures.shape c.segments_option-segments.ensures.local
    ∙ ap₂ with_rule c.new.ensures.app c.segments_option-segments.ensures.rule in
    let local = c.in_ok-encode.ensures.globals ∙ ap₂ (λ a b. a || b) c.new.ensures.local c.segments_option-segments.ensures.local in
    IfOk-weaker c.subcommand.result _ _ (λ more added.
    added.shape local ∙ ap (λ (a : App). with_subcommand (app_of c.args.known) a.top) encode) c.subcommand.ensures
