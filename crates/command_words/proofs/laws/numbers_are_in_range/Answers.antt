use Rattle.command_words.proofs.InRange.{means_in_range}
use Rattle.command_words.proofs.laws.numbers_are_in_range.Goals as goal

pub returns : goal.returns
returns c = means_in_range
