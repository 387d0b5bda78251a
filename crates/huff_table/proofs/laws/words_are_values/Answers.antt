use Rattle.huff_table.proofs.Lookup.{words_of_values, values_of_words}
use Rattle.huff_table.proofs.laws.words_are_values.Goals as goal

pub returns : goal.returns
returns c = λ table value bits is. (words_of_values table value bits is, values_of_words table value bits is)
