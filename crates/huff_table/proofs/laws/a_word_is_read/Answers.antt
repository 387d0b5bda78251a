use Rattle.huff_table.proofs.WordReading.{value_is_read, word_is_read}
use Rattle.huff_table.proofs.laws.a_word_is_read.Goals as goal

pub returns : goal.returns
returns c = λ table bytes from to value is. (value_is_read table bytes from to value is, λ w. word_is_read table bytes from to value w.0 is w.1 w.2)
