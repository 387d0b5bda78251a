-- Steps: segments of a container that are measured at the same time (own).
use Rattle.std.specs.Prelude.{ℕ, ◌≡◌, ◌+◌, ◌-◌, ◌<◌, ◌≤◌, List, [], ◌∷◌, ◌++◌, length, map}
use Rattle.std.specs.List.{range_with_len}
use Rattle.box_format.specs.Parts.{BoxSeen}
use Rattle.container_spec.specs.Meanings.{segment_in}
use Rattle.container_spec.specs.Segments.{Output, segment_output}
use Rattle.range_read.specs.Measures.{AreMeasures, IsMeasure}
use Rattle.range_read.specs.declared.lanes.Lane.{Lane}
use Rattle.range_read.specs.declared.measure.Measure.{Measure}

-- the most lanes
abbrev pub most_at_once : ℕ
most_at_once = 16

-- the outputs of `count` segments of a container of one scan, from number `first` on
abbrev pub outputs_from : BoxSeen → ℕ → ℕ → List Output
outputs_from v first count =
    map (λ i. segment_output (segment_in v.plan v.parts i)) (range_with_len first count)

-- a lane that can measure a segment, after at most `most` others
pub record IsLane (v : BoxSeen) (most : ℕ) (lane : Lane) : Type 0 where
  pub plans : lane.decoder.plans ≡ v.plan ∷ []
  pub few : lane.decoder.begun ≤ most

-- a lane's measure is that of a segment, if the container has it
abbrev pub IsMeasuredAt : BoxSeen → ℕ → Lane → Type 0
IsMeasuredAt v segment lane =
    segment < length v.parts.handovers
    → IsMeasure (segment_output (segment_in v.plan v.parts segment)) lane.measure

-- a lane has measured the segment of its place in a wave
pub record HasMeasured (v : BoxSeen) (first index : ℕ) (lane after : Lane) : Type 0 where
  pub measured : IsMeasuredAt v (first + index) after
  pub plans : after.decoder.plans ≡ lane.decoder.plans
  pub few : after.decoder.begun ≤ lane.decoder.begun + 1

-- the measures so far of segments before one, all of which end well: with those of the others they are the measures of
-- all
abbrev pub AreMeasuredUpTo : BoxSeen → ℕ → List Measure → Type 0
AreMeasuredUpTo v segment measures =
    (more : List Measure)
    → AreMeasures (outputs_from v segment (length v.parts.handovers - segment)) more
    → AreMeasures (outputs_from v 0 (length v.parts.handovers)) (measures ++ more)

-- the measures of all, up to the first that ends badly
abbrev pub AreAllMeasured : BoxSeen → List Measure → Type 0
AreAllMeasured v measures = AreMeasures (outputs_from v 0 (length v.parts.handovers)) measures
