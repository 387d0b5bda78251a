-- All random blocks are read again from the stream that an independent program made of them.
use Rattle.std.proofs.Common.{◌≡◌, ℕ, Bool, true, List, [], ◌∷◌, length, refl, subst, arith, ℤ, pos, unsigned_abs, Ok}
use Rattle.std.specs.Prelude.{◌==◌, ◌&&◌, nat_le, slice_index_or}
use Rattle.std.specs.List.{AllByRecursion, list_all}
use Rattle.std.proofs.lemmas.Bool.{and_parts, agree_below, agree_below_at, eqb-true, leb-true}
use Rattle.coef_block.specs.Block.{IsBlock, limit}
use Rattle.bool_coder.specs.BoolStream.{after, stream}
use Rattle.bool_coder.proofs.ReadBack.{read_again}
use Rattle.adapt_bins.specs.Events.{bools_of}
use Rattle.block_spec.specs.Values.{value_events, count_events, values_events}
use Rattle.block_spec.specs.Around.{inner_positions, values_in, guess, prediction, dc_spread}
use Rattle.block_spec.specs.BlockEvents.{block_events, inner_count_events, edge_events, dc_events, ac_events}
use Rattle.block_spec.specs.Grid.{cell_at, block_at}
use Rattle.block_spec.specs.SegmentEvents.{segment_events, events_at, around_in}
use Rattle.block_spec.specs.WorkedSegments.{stream_of}
use Rattle.block_spec.specs.RandomSegment.{two_wide, random_blocks, random_stream}
use Rattle.block_spec.proofs.ProbsOfBins.{probs_in}
use Rattle.block_spec.specs.BlockReading.{blocks_read}
use Rattle.block_spec.specs.ReadingLaws.{HaveGiven}
use Rattle.block_spec.proofs.Spelling.{Events, AreRead}
use Rattle.block_spec.proofs.BlocksRead.{given_blocks_are_read}

abbrev is_within : List ℤ → ℕ → Bool
is_within block position =
    nat_le (unsigned_abs (slice_index_or block position (pos 0))) (limit position)

abbrev is_block : List ℤ → Bool
is_block block = length block == 64 && agree_below (is_within block) (λ _. true) 64

block_by_test : (block : List ℤ) → is_block block ≡ true → IsBlock block
block_by_test block e =
    let parts = and_parts (length block == 64) (agree_below (is_within block) (λ _. true) 64) e in
    record {
      count = eqb-true (length block) 64 parts.0;
      coefficients = λ position within.
          leb-true _ _ (agree_below_at (is_within block) (λ _. true) 64 position parts.1 within);
    }

blocks_by_test : (blocks : List (List ℤ)) → list_all is_block blocks ≡ true
    → AllByRecursion IsBlock blocks
blocks_by_test [] e = tt
blocks_by_test (b ∷ blocks) e =
    let parts = and_parts (is_block b) (list_all is_block blocks) e in
    (block_by_test b parts.0, blocks_by_test blocks parts.1)

random_are_blocks : AllByRecursion IsBlock random_blocks
random_are_blocks = blocks_by_test random_blocks refl

random_coded : stream_of two_wide random_blocks ≡ random_stream
unfolding after stream value_events count_events values_events inner_positions values_in guess prediction dc_spread block_events inner_count_events edge_events dc_events ac_events cell_at block_at segment_events events_at around_in
random_coded = refl

abbrev random_events : Events
random_events = segment_events two_wide random_blocks

random_given : HaveGiven two_wide random_stream random_blocks
random_given = record {
  grid = record { across = omega arith; mcu = omega arith };
  each = random_are_blocks;
  reading = subst (λ (bytes : List ℕ). AreRead bytes random_events) random_coded
      (read_again (bools_of random_events) (probs_in random_events));
}

pub random_read : blocks_read two_wide random_stream [] 24 ≡ Ok random_blocks
random_read = given_blocks_are_read two_wide random_stream [] random_blocks random_given
