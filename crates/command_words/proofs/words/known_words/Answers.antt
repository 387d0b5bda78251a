use Rattle.std.proofs.Common.{ap, ◌∙◌}
use Rattle.std.proofs.lemmas.Result.{IfOk-weaker}
use Rattle.clap.specs.Words.{with_subcommand}
use Rattle.clap.specs.Simple.{app_of_fields}
use Rattle.command_words.specs.LeptonApp.{chunk_app, decode_app, encode_app, index_app, migrate_app, range_app, requiring_subcommand, sample_app}
use Rattle.command_words.proofs.words.known_words.Goals as goal

pub returns : goal.returns
returns c =
    let wanted = ap app_of_fields c.subcommand_required-known.ensures ∙ ap requiring_subcommand c.new.ensures.app in
    let first = c.in_ok-known.ensures ∙ ap (λ a. with_subcommand a encode_app.top) wanted in
    let second = c.in_ok-known-2.ensures ∙ ap (λ a. with_subcommand a decode_app.top) first in
    let third = c.in_ok-known-3.ensures ∙ ap (λ a. with_subcommand a migrate_app.top) second in
    let fourth = c.in_ok-known-4.ensures ∙ ap (λ a. with_subcommand a chunk_app.top) third in
    let fifth = c.in_ok-known-5.ensures ∙ ap (λ a. with_subcommand a index_app.top) fourth in
    let sixth = c.in_ok-known-6.ensures ∙ ap (λ a. with_subcommand a range_app.top) fifth in
    IfOk-weaker c.with_sample.result _ _ (λ known more. more ∙ ap (λ a. with_subcommand a sample_app.top) sixth) c.with_sample.ensures
