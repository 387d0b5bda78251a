use Rattle.std.proofs.Common.{refl}
use Rattle.huff_table.specs.CodeWords.{word_of, words_of}
use Rattle.scan_spec.specs.BlockBits.{block_text, dc_text, ac_text, ac_values, value_text, zeros_text, word_text}
use Rattle.scan_spec.proofs.laws.rows_of_the_definition.Goals as goal

pub returns : goal.returns
unfolding block_text dc_text ac_text ac_values value_text zeros_text word_text word_of words_of
returns c = (refl, refl, refl, refl, refl, refl, refl)
