use Rattle.std.proofs.Common.{refl}
use Rattle.huff_table.specs.CodeWords.{word_of, words_of}
use Rattle.bool_coder.specs.BoolStream.{after, stream}
use Rattle.block_spec.specs.Values.{value_events, count_events, values_events}
use Rattle.block_spec.specs.Around.{inner_positions, values_in, guess, prediction, dc_spread}
use Rattle.block_spec.specs.BlockEvents.{block_events, inner_count_events, edge_events, dc_events, ac_events}
use Rattle.block_spec.specs.Grid.{cell_at, block_at}
use Rattle.block_spec.specs.SegmentEvents.{segment_events, events_at, around_in}
use Rattle.scan_spec.specs.BlockBits.{block_text, dc_text, ac_text, ac_values, value_text, zeros_text, word_text}
use Rattle.scan_spec.specs.Blocks.{blocks_text, dcs_after}
use Rattle.scan_spec.specs.Scans.{mcus_bits}
use Rattle.scan_spec.specs.Spots.{mcu_put, mcus_put}
use Rattle.handover.specs.HandoverBytes.{handover_bytes}
use Rattle.box_format.specs.Containers.{container_bytes}
use Rattle.container_spec.specs.ScanStream.{blocks_stream}
use Rattle.container_spec.proofs.laws.rows_of_chunks.Goals as goal

pub returns-clause-seam : goal.returns-clause-seam
unfolding block_text dc_text ac_text ac_values value_text zeros_text word_text word_of words_of blocks_text dcs_after mcus_bits mcu_put mcus_put
returns-clause-seam c =
    (refl, refl, refl, refl, refl, refl, refl, refl, refl, refl, refl, refl, refl, refl, refl, refl)

pub returns-clause-containers : goal.returns-clause-containers
unfolding after stream blocks_stream value_events count_events values_events inner_positions values_in guess prediction dc_spread block_events inner_count_events edge_events dc_events ac_events cell_at block_at segment_events events_at around_in block_text dc_text ac_text ac_values value_text zeros_text word_text word_of words_of blocks_text dcs_after mcus_bits mcu_put mcus_put handover_bytes container_bytes
returns-clause-containers c = (refl, refl, refl, refl, refl, refl)
