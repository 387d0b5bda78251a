use Rattle.std.proofs.Common.{refl}
use Rattle.huff_table.specs.CodeWords.{word_of, words_of}
use Rattle.scan_spec.specs.BlockBits.{block_text, dc_text, ac_text, ac_values, value_text, zeros_text, word_text}
use Rattle.scan_spec.specs.Blocks.{blocks_text, dcs_after}
use Rattle.scan_spec.specs.Spots.{mcu_put, mcus_put}
use Rattle.cut_spec.proofs.laws.rows_of_segments.Goals as goal

pub returns-clause-byteless : goal.returns-clause-byteless
unfolding block_text dc_text ac_text ac_values value_text zeros_text word_text word_of words_of blocks_text dcs_after mcu_put mcus_put
returns-clause-byteless c = (refl, refl, refl, refl, refl, refl)

pub returns-clause-across : goal.returns-clause-across
unfolding block_text dc_text ac_text ac_values value_text zeros_text word_text word_of words_of blocks_text dcs_after mcu_put mcus_put
returns-clause-across c = (refl, refl, refl, refl)

pub returns-clause-rows : goal.returns-clause-rows
returns-clause-rows c = (refl, refl)

pub returns-clause-restart : goal.returns-clause-restart
unfolding block_text dc_text ac_text ac_values value_text zeros_text word_text word_of words_of blocks_text dcs_after mcu_put mcus_put
returns-clause-restart c = (refl, refl, refl, refl, refl)
