use Rattle.std.proofs.Common.{refl}
use Rattle.bool_coder.specs.BoolStream.{after, stream}
use Rattle.block_spec.specs.Values.{value_events, count_events, values_events}
use Rattle.block_spec.specs.Around.{inner_positions, values_in, guess, prediction, dc_spread}
use Rattle.block_spec.specs.BlockEvents.{block_events, inner_count_events, edge_events, dc_events, ac_events}
use Rattle.block_spec.specs.Grid.{cell_at, block_at}
use Rattle.block_spec.specs.SegmentEvents.{segment_events, events_at, around_in}
use Rattle.block_spec.proofs.worked.rows_of_events.Goals as goal

pub returns-clause-inner_bits : goal.returns-clause-inner_bits
unfolding after stream value_events count_events values_events inner_positions values_in guess prediction dc_spread block_events inner_count_events edge_events dc_events ac_events cell_at block_at segment_events events_at around_in
returns-clause-inner_bits c = refl

pub returns-clause-inner_stream : goal.returns-clause-inner_stream
unfolding after stream value_events count_events values_events inner_positions values_in guess prediction dc_spread block_events inner_count_events edge_events dc_events ac_events cell_at block_at segment_events events_at around_in
returns-clause-inner_stream c = refl

pub returns-clause-two_probs : goal.returns-clause-two_probs
unfolding after stream value_events count_events values_events inner_positions values_in guess prediction dc_spread block_events inner_count_events edge_events dc_events ac_events cell_at block_at segment_events events_at around_in
returns-clause-two_probs c = refl

pub returns-clause-two_stream : goal.returns-clause-two_stream
unfolding after stream value_events count_events values_events inner_positions values_in guess prediction dc_spread block_events inner_count_events edge_events dc_events ac_events cell_at block_at segment_events events_at around_in
returns-clause-two_stream c = refl

pub returns-clause-six_probs : goal.returns-clause-six_probs
unfolding after stream value_events count_events values_events inner_positions values_in guess prediction dc_spread block_events inner_count_events edge_events dc_events ac_events cell_at block_at segment_events events_at around_in
returns-clause-six_probs c = refl

pub returns-clause-six_stream : goal.returns-clause-six_stream
unfolding after stream value_events count_events values_events inner_positions values_in guess prediction dc_spread block_events inner_count_events edge_events dc_events ac_events cell_at block_at segment_events events_at around_in
returns-clause-six_stream c = refl
