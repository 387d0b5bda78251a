use Rattle.std.proofs.Common.{refl}
use Rattle.bool_coder.specs.BoolStream.{after}
use Rattle.bool_coder.specs.BoolReading.{first_bits}
use Rattle.block_spec.specs.Values.{value_events, count_events, values_events}
use Rattle.block_spec.specs.Around.{inner_positions, values_in, guess, prediction, dc_spread}
use Rattle.block_spec.specs.BlockEvents.{block_events, inner_count_events, edge_events, dc_events, ac_events}
use Rattle.block_spec.specs.Grid.{cell_at, block_at}
use Rattle.block_spec.specs.SegmentEvents.{segment_events, events_at, around_in}
use Rattle.block_spec.specs.Asking.{told_by}
use Rattle.block_spec.specs.AskedBlocks.{asked_number, asked_count, asked_category, asked_rest, asked_value, asked_values, asked_edge, asked_residue, placed, block_with, asked_coefficients, asked_block}
use Rattle.block_spec.specs.BlockReading.{block_read, blocks_read}
use Rattle.block_spec.proofs.RandomRead.{random_read}
use Rattle.block_spec.proofs.worked.rows_of_reading.Goals as goal

pub returns : goal.returns
unfolding after first_bits value_events count_events values_events inner_positions values_in guess prediction dc_spread block_events inner_count_events edge_events dc_events ac_events cell_at block_at segment_events events_at around_in told_by asked_number asked_count asked_category asked_rest asked_value asked_values asked_edge asked_residue placed block_with asked_coefficients asked_block block_read blocks_read
returns c =
    record {
      zeros = refl;
      two_zeros = refl;
      inner = refl;
      dc_of_one = refl;
      large_dc = refl;
      no_dc = refl;
      no_count = refl;
      first_random = refl;
      random = random_read;
    }
