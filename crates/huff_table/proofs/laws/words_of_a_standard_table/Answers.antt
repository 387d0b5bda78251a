use Rattle.std.proofs.Common.{refl}
use Rattle.huff_table.specs.CodeWords.{words_of}
use Rattle.huff_table.proofs.laws.words_of_a_standard_table.Goals as goal

pub returns : goal.returns
unfolding words_of
returns c = refl
