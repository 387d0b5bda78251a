use Rattle.huff_table.proofs.Lookup.{one_begins}
use Rattle.huff_table.proofs.laws.no_word_begins_another.Goals as goal

pub returns : goal.returns
returns c = λ table value other word more is e f. one_begins table value other word more is e f
