-- Rows: segments worked by hand (docs/FORMAT.md, The events of a block).
use Rattle.std.specs.Prelude.{ℕ, Bool, true, false, List, [], ◌∷◌, ◌++◌, map, replicate, ℤ, negsuc, slice_set, Some}
use Rattle.coef_block.specs.BlockRows.{no_block, extents_of}
use Rattle.bool_coder.specs.BoolStream.{coded, stream}
use Rattle.adapt_bins.specs.Events.{bools_of}
use Rattle.block_spec.specs.Around.{Around}
use Rattle.block_spec.specs.Grid.{Grid}
use Rattle.block_spec.specs.SegmentEvents.{segment_events}

-- one component, two MCUs across (own)
abbrev pub one_wide : Grid
one_wide = record { across = 2; mcu = extents_of (1 ∷ []) (1 ∷ []) }

-- one MCU of three components, 4:2:0 (own)
abbrev pub sampled : Grid
sampled = record { across = 1; mcu = extents_of (2 ∷ 1 ∷ 1 ∷ []) (2 ∷ 1 ∷ 1 ∷ []) }

-- n blocks of zeros (own)
abbrev pub zeros_of : ℕ → List (List ℤ)
zeros_of n = replicate n no_block

-- a block with -1 at zigzag index 4 (own)
abbrev pub an_inner_coefficient : List ℤ
an_inner_coefficient = slice_set no_block 9 (negsuc 0)

-- that block above, to the left and diagonally (own)
abbrev pub three_around : Around
three_around = record {
  above = Some an_inner_coefficient;
  left = Some an_inner_coefficient;
  diagonal = Some an_inner_coefficient;
}

-- the bits of events (own)
abbrev pub bits_of : List (ℕ × Bool) → List Bool
bits_of events = map (λ (e : ℕ × Bool). e.1) events

-- the bits of that block alone (own): the inner count 1 in six bits; the category 1 in two steps, and the sign; two
-- edge counts of 0; the category of the residue, 0
abbrev pub inner_bits : List Bool
inner_bits =
    replicate 5 false ++ true ∷ (true ∷ false ∷ true ∷ []) ++ replicate 3 false
    ++ replicate 3 false ++ false ∷ []

-- the probabilities of a segment's bools (own)
abbrev pub probs : Grid → List (List ℤ) → List ℕ
probs g blocks = map (λ (b : ℕ × Bool). b.0) (bools_of (segment_events g blocks))

-- the stream of a segment (own)
abbrev pub stream_of : Grid → List (List ℤ) → List ℕ
stream_of g blocks = stream (coded (bools_of (segment_events g blocks)))

-- what two blocks of zeros have: each of 13 bins twice (own)
abbrev pub probs_of_two_blocks : List ℕ
probs_of_two_blocks = replicate 13 128 ++ replicate 13 170

-- what six blocks of zeros have: the 13 bins of the first class four times, those of the second twice (own)
abbrev pub probs_of_six_blocks : List ℕ
probs_of_six_blocks =
    replicate 13 128 ++ replicate 13 170 ++ replicate 13 192 ++ replicate 13 204
    ++ replicate 13 128 ++ replicate 13 170
