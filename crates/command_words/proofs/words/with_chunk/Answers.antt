use Rattle.std.proofs.Common.{rules, ap, ap₂, ◌≡◌, ◌∙◌, ◌||◌, codes, pos}
use Rattle.std.proofs.lemmas.Result.{IfOk-weaker}
use Rattle.clap.specs.Words.{App, app_of, rule_of, with_rule, with_subcommand}
use Rattle.clap.specs.declared.builder.value_parser.ValueParser.TheVariants.{Signed}
use Rattle.command_words.specs.LeptonApp.{chunk_app, number_rule}
use Rattle.command_words.proofs.words.with_chunk.Goals as goal

pub returns : goal.returns
returns c =
    let index : rule_of c.number_option-index.result ≡ number_rule (codes "index") (Signed (pos 0) (pos 4294967295)) (codes "0") = search rules in
    let size : rule_of c.number_option-size.result ≡ number_rule (codes "size") (Signed (pos 1) (pos 67108864)) (codes "4194304") = search rules in
    let first = c.in_ok-chunk.ensures.shape c.number_option-index.ensures.local ∙ ap₂ with_rule c.new-3.ensures.app index in
    let second = c.in_ok-chunk-2.ensures.shape c.number_option-size.ensures.local ∙ ap₂ with_rule first size in
    let chunk : app_of c.in_ok-chunk-3.chunk ≡ chunk_app =
    c.in_ok-chunk-3.ensures.shape c.segments_option-segments.ensures.local
    ∙ ap₂ with_rule second c.segments_option-segments.ensures.rule in
    let first_local = c.in_ok-chunk.ensures.globals ∙ ap₂ (λ a b. a || b) c.new-3.ensures.local c.number_option-index.ensures.local in
    let second_local = c.in_ok-chunk-2.ensures.globals ∙ ap₂ (λ a b. a || b) first_local c.number_option-size.ensures.local in
    let local = c.in_ok-chunk-3.ensures.globals ∙ ap₂ (λ a b. a || b) second_local c.segments_option-segments.ensures.local in
    IfOk-weaker c.subcommand.result _ _ (λ more added.
    added.shape local ∙ ap (λ (a : App). with_subcommand (app_of c.args.known) a.top) chunk) c.subcommand.ensures
