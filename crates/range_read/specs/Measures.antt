-- Steps: what is found of each segment of a container (own).
use Rattle.std.specs.Prelude.{ℕ, ◌≡◌, ◌*◌, ◌≤◌, List, [], ◌∷◌, length}
use Rattle.handover.specs.declared.outcome.Outcome.{Outcome}
use Rattle.handover.specs.declared.outcome.Outcome.TheVariants.{Good, Bad}
use Rattle.box_format.specs.Versions.{most_segments}
use Rattle.container_spec.specs.Segments.{Output}
use Rattle.segment_worker.specs.Contents.{segment_room}
use Rattle.range_read.specs.declared.measure.Measure.{Measure}

-- the count of a segment's bytes is right if it ends well
abbrev pub IsCounted : Outcome → List ℕ → ℕ → Type 0
IsCounted (Good padded) bytes found = (found ≡ length bytes) × (found ≤ segment_room * most_segments)
IsCounted (Bad fault) bytes found = Unit {0}

-- the measure of a segment with this output
pub record IsMeasure (output : Output) (measure : Measure) : Type 0 where
  pub outcome : measure.outcome ≡ output.1
  pub count : IsCounted output.1 output.0 measure.length

-- one fact after a segment that ends well, and another after one that ends badly
abbrev pub After : Outcome → Type 0 → Type 0 → Type 0
After (Good padded) well badly = well
After (Bad fault) well badly = badly

-- the measures of segments with these outputs, up to the first that ends badly: after that one they say nothing, and
-- may be fewer
abbrev pub AreMeasures : List Output → List Measure → Type 0
AreMeasures [] [] = Unit {0}
AreMeasures [] (measure ∷ measures) = ⊥
AreMeasures (output ∷ outputs) [] = ⊥
AreMeasures (output ∷ outputs) (measure ∷ measures) =
    IsMeasure output measure
    × After output.1 (AreMeasures outputs measures) (length measures ≤ length outputs)
