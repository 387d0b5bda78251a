use Rattle.std.proofs.Common.{map, rules, string_bytes}
use Rattle.std.proofs.lemmas.Result.{IfOk-weaker}
use Rattle.command_words.specs.Meaning.{Means}
use Rattle.command_words.proofs.InRange.{means_in_range}
use Rattle.command_words.proofs.command.command_of.Goals as goal

pub returns-clause-in_range : goal.returns-clause-in_range
returns-clause-in_range c =
    IfOk-weaker c.ok_or.result (Means (map string_bytes c.args.words.now)) _ (means_in_range _) (search rules)
