use Rattle.std.proofs.Common.{rules, ap, ap₂, ◌≡◌, ◌∙◌, ◌||◌, codes, pos}
use Rattle.std.proofs.lemmas.Result.{IfOk-weaker}
use Rattle.clap.specs.Words.{App, app_of, rule_of, with_rule, with_subcommand}
use Rattle.clap.specs.declared.builder.value_parser.ValueParser.TheVariants.{Signed}
use Rattle.command_words.specs.LeptonApp.{required_rule, sample_app}
use Rattle.command_words.proofs.words.with_sample.Goals as goal

pub returns : goal.returns
returns c =
    let seed : rule_of c.required_option-seed.result ≡ required_rule (codes "seed") (Signed (pos 0) (pos 4294967295)) = search rules in
    let columns : rule_of c.required_option-columns.result ≡ required_rule (codes "columns") (Signed (pos 1) (pos 256)) = search rules in
    let rows : rule_of c.required_option-rows.result ≡ required_rule (codes "rows") (Signed (pos 1) (pos 256)) = search rules in
    let first = c.in_ok-sample.ensures.shape c.required_option-seed.ensures.local ∙ ap₂ with_rule c.new-4.ensures.app seed in
    let second = c.in_ok-sample-2.ensures.shape c.required_option-columns.ensures.local ∙ ap₂ with_rule first columns in
    let sample : app_of c.in_ok-sample-3.sample ≡ sample_app =
    c.in_ok-sample-3.ensures.shape c.required_option-rows.ensures.local ∙ ap₂ with_rule second rows in
    let first_local = c.in_ok-sample.ensures.globals ∙ ap₂ (λ a b. a || b) c.new-4.ensures.local c.required_option-seed.ensures.local in
    let second_local = c.in_ok-sample-2.ensures.globals ∙ ap₂ (λ a b. a || b) first_local c.required_option-columns.ensures.local in
    let local = c.in_ok-sample-3.ensures.globals ∙ ap₂ (λ a b. a || b) second_local c.required_option-rows.ensures.local in
    IfOk-weaker c.subcommand.result _ _ (λ more added.
    added.shape local ∙ ap (λ (a : App). with_subcommand (app_of c.args.known) a.top) sample) c.subcommand.ensures
