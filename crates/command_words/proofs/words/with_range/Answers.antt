use Rattle.std.proofs.Common.{ap, ap₂, ◌≡◌, ◌∙◌, ◌||◌, codes}
use Rattle.std.proofs.lemmas.Result.{IfOk-weaker}
use Rattle.clap.specs.Words.{App, app_of, rule_of, with_rule, with_subcommand}
use Rattle.clap.specs.declared.builder.value_parser.ValueParser.TheVariants.{Unsigned}
use Rattle.command_words.specs.LeptonApp.{range_app, required_rule}
use Rattle.command_words.proofs.Narrowed.{narrowed}
use Rattle.command_words.proofs.words.with_range.Goals as goal

pub returns : goal.returns
returns c =
    let from : rule_of c.required_option-from.result ≡ required_rule (codes "from") (Unsigned 0 1099511627775) =
    c.required_option-from.ensures.rule ∙ ap (required_rule (codes "from")) (narrowed c.value_parser.result c.range.result _ _
    c.value_parser.ensures c.new.ensures.start c.new.ensures.end c.range.ensures) in
    let to : rule_of c.required_option-to.result ≡ required_rule (codes "to") (Unsigned 0 1099511627775) =
    c.required_option-to.ensures.rule ∙ ap (required_rule (codes "to")) (narrowed c.value_parser-2.result c.range-2.result _ _
    c.value_parser-2.ensures c.new-2.ensures.start c.new-2.ensures.end c.range-2.ensures) in
    let first = c.in_ok-range.ensures.shape c.required_option-from.ensures.local ∙ ap₂ with_rule c.new-3.ensures.app from in
    let second = c.in_ok-range-2.ensures.shape c.required_option-to.ensures.local ∙ ap₂ with_rule first to in
    let range : app_of c.in_ok-range-3.range ≡ range_app =
    c.in_ok-range-3.ensures.shape c.workers_option-workers.ensures.local
    ∙ ap₂ with_rule second c.workers_option-workers.ensures.rule in
    let first_local = c.in_ok-range.ensures.globals ∙ ap₂ (λ a b. a || b) c.new-3.ensures.local c.required_option-from.ensures.local in
    let second_local = c.in_ok-range-2.ensures.globals ∙ ap₂ (λ a b. a || b) first_local c.required_option-to.ensures.local in
    let local = c.in_ok-range-3.ensures.globals ∙ ap₂ (λ a b. a || b) second_local c.workers_option-workers.ensures.local in
    IfOk-weaker c.subcommand.result _ _ (λ more added.
    added.shape local ∙ ap (λ (a : App). with_subcommand (app_of c.args.known) a.top) range) c.subcommand.ensures
