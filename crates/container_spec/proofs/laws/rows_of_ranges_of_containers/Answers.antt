use Rattle.std.proofs.Common.{[], ◌∷◌, refl}
use Rattle.huff_table.specs.CodeWords.{word_of, words_of}
use Rattle.bool_coder.specs.BoolStream.{after, stream}
use Rattle.bool_coder.specs.BoolReading.{first_bits}
use Rattle.block_spec.specs.Values.{value_events, count_events, values_events}
use Rattle.block_spec.specs.Around.{inner_positions, values_in, guess, prediction, dc_spread}
use Rattle.block_spec.specs.BlockEvents.{block_events, inner_count_events, edge_events, dc_events, ac_events}
use Rattle.block_spec.specs.Grid.{cell_at, block_at}
use Rattle.block_spec.specs.SegmentEvents.{segment_events, events_at, around_in}
use Rattle.block_spec.specs.Asking.{told_by}
use Rattle.block_spec.specs.AskedBlocks.{asked_number, asked_count, asked_category, asked_rest, asked_value, asked_values, asked_edge, asked_residue, placed, block_with, asked_coefficients, asked_block}
use Rattle.block_spec.specs.BlockReading.{block_read, blocks_read}
use Rattle.scan_spec.specs.BlockBits.{block_text, dc_text, ac_text, ac_values, value_text, zeros_text, word_text}
use Rattle.scan_spec.specs.Blocks.{blocks_text, dcs_after}
use Rattle.scan_spec.specs.Spots.{mcu_put, mcus_put}
use Rattle.handover.specs.HandoverBytes.{handover_bytes}
use Rattle.container_spec.specs.ScanStream.{blocks_stream}
use Rattle.container_spec.specs.Segments.{mcu_step, ending, mcus_output}
use Rattle.container_spec.specs.RangeMeaningRows.{seam_parts, seam_plan}
use Rattle.container_spec.proofs.laws.rows_of_ranges_of_containers.Goals as goal
use Rattle.container_spec.proofs.RangePortions.{as_read}

pub returns-clause-seam : goal.returns-clause-seam
unfolding after first_bits stream blocks_stream value_events count_events values_events inner_positions values_in guess prediction dc_spread block_events inner_count_events edge_events dc_events ac_events cell_at block_at segment_events events_at around_in told_by asked_number asked_count asked_category asked_rest asked_value asked_values asked_edge asked_residue placed block_with asked_coefficients asked_block block_read blocks_read block_text dc_text ac_text ac_values value_text zeros_text word_text word_of words_of blocks_text dcs_after mcu_put mcus_put handover_bytes mcu_step ending mcus_output
returns-clause-seam c =
    let parts = seam_parts (69 ∷ 72 ∷ 73 ∷ []) in (
      as_read seam_plan parts 70 72,
      as_read seam_plan parts 71 73,
      as_read seam_plan parts 0 69,
      as_read seam_plan parts 72 72,
      as_read seam_plan parts 72 75,
      as_read seam_plan parts 0 75,
      refl,
      refl,
      refl,
      refl,
    )

pub returns-clause-misplaced : goal.returns-clause-misplaced
unfolding after first_bits stream blocks_stream value_events count_events values_events inner_positions values_in guess prediction dc_spread block_events inner_count_events edge_events dc_events ac_events cell_at block_at segment_events events_at around_in told_by asked_number asked_count asked_category asked_rest asked_value asked_values asked_edge asked_residue placed block_with asked_coefficients asked_block block_read blocks_read block_text dc_text ac_text ac_values value_text zeros_text word_text word_of words_of blocks_text dcs_after mcu_put mcus_put handover_bytes mcu_step ending mcus_output
returns-clause-misplaced c =
    let parts = seam_parts (69 ∷ 71 ∷ 73 ∷ []) in (
      as_read seam_plan parts 70 72,
      as_read seam_plan parts 71 72,
      as_read seam_plan parts 73 75,
    )
