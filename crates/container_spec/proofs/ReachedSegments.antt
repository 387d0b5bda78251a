-- A segment that ends well reaches the spot that the next one starts from.
use Rattle.std.proofs.Common.{◌≡◌, ℕ, zero, suc, ◌+◌, ◌-◌, ◌^◌, ◌<◌, ◌≤◌, Bool, true, false, if◌then◌else◌, List, [], ◌∷◌, length, get_or, None, refl, sym, ap, ap₂, subst, ◌∙◌, arith}
use Rattle.std.specs.Prelude.{slice_get, IfSome}
use Rattle.std.specs.List.{AllByRecursion}
use Rattle.jpeg_marker.specs.Plans.{PlanFields}
use Rattle.scan_spec.specs.Pads.{PadBits, bit_for}
use Rattle.scan_spec.specs.Slots.{Shape, shape_of}
use Rattle.scan_spec.specs.Spots.{Spot}
use Rattle.handover.specs.Handovers.{HandoverFields, IsHandover, start}
use Rattle.handover.specs.PadSums.{no_pads}
use Rattle.handover.specs.declared.pads.PadSum.{PadSum}
use Rattle.handover.specs.declared.outcome.Outcome.{Outcome}
use Rattle.handover.specs.declared.outcome.Outcome.TheVariants.{Good, Bad}
use Rattle.handover.specs.declared.outcome.StreamCause.TheVariants.{StreamBad}
use Rattle.cut_spec.specs.RowHandovers.{handover_of, spot_of}
use Rattle.cut_spec.proofs.SpotsBegun.{handover_is_spot, spots_are_begun}
use Rattle.block_spec.specs.Grid.{Grid, IsGrid}
use Rattle.block_spec.specs.SegmentEvents.{segment_events}
use Rattle.block_spec.specs.ReadingLaws.{HaveGiven}
use Rattle.box_format.specs.Parts.{BoxParts}
use Rattle.container_spec.specs.ScanStream.{grid_of, starts}
use Rattle.container_spec.specs.Segments.{SegmentFields, Progress, Output, first_progress, stopped, mcus_output, rest_output, segment_output}
use Rattle.container_spec.specs.SegmentLaws.{Meets, IsGood, IsSpot, mcus_sum}
use Rattle.container_spec.proofs.JoinedSegments.{Joined, joined_with}
use Rattle.container_spec.specs.Meanings.{segment_in}
use Rattle.container_spec.proofs.CutsOfPlans.{AreCuts, starts_at}
use Rattle.container_spec.proofs.GoodSegments.{good_has_its_stream}
use Rattle.container_spec.proofs.Numbered.{got_at}
use Rattle.container_spec.proofs.PlacesKept.{good_with_place}
use Rattle.container_spec.proofs.SpotsKept.{spot_kept}

-- ---- outcomes

-- segments without a fault begin with one
pub record FirstGood (output : Output) (more : Joined) : Type 0 where
  pub padded : PadSum
  pub outcome : output.1 ≡ Good padded
  pub rest : more.fault ≡ None

pub first_good : (bytes : List ℕ) (outcome : Outcome) (rest : Joined)
    → (joined_with bytes outcome rest).fault ≡ None → FirstGood (bytes, outcome) rest
first_good bytes (Good padded) rest none = record { padded = padded; outcome = refl; rest = none }
first_good bytes (Bad fault) rest none = absurd (cc)

started : (t : Bool) (s : SegmentFields) (output : Output) (bytes : List ℕ) (padded : PadSum)
    → (if t then output else stopped s StreamBad) ≡ (bytes, Good padded)
    → output ≡ (bytes, Good padded)
started true s output bytes padded e = e
started false s output bytes padded e = absurd (let f = ap (λ (o : Output). o.1) e in cc)

-- nothing was given yet
pub none_given : (g : Grid) (bytes : List ℕ) → IsGrid g → HaveGiven g bytes []
unfolding segment_events
none_given g bytes is = record { grid = is; each = tt; reading = refl }

got_all : {A : Type 0} (P : A → Type 0) (xs : List A) (k : ℕ) → AllByRecursion P xs
    → IfSome (slice_get xs k) P
got_all P [] k all = tt
got_all P (x ∷ xs) zero all = all.0
got_all P (x ∷ xs) (suc k) all = got_all P xs k all.1

-- ---- a segment from a spot, in a container of a whole file

-- the parts of a container without a chunk
abbrev pub whole : BoxParts → BoxParts
whole b = record b { chunk = None }

-- the spot before segment i, of which `count` are left
pub record Reached (plan : PlanFields) (b : BoxParts) (i count : ℕ) (spot : Spot) : Type 0 where
  pub is : IsSpot spot
  pub counted : spot.count ≡ starts_at plan (length b.handovers) i
  pub at : 0 < count → get_or b.handovers i start ≡ handover_of (shape_of plan) spot

-- before its first MCU
abbrev pub at_spot : Spot → Progress
at_spot spot = record { blocks = []; spot = spot; padded = no_pads }

module _ (plan : PlanFields) (b : BoxParts) (few : (shape_of plan).mcus ≤ 2 ^ 32)
    (grid : IsGrid (grid_of plan)) (each : AllByRecursion IsHandover b.handovers)
    (cuts : AreCuts (starts_at plan (length b.handovers)) (length b.handovers)
    (shape_of plan).mcus) where
  abbrev pub shape : Shape
  shape = shape_of plan

  abbrev pub pads : PadBits
  pads = b.pads

  abbrev pub d : ℕ → ℕ
  d i = starts_at plan (length b.handovers) i

  abbrev pub output : ℕ → Output
  output i = segment_output (segment_in plan (whole b) i)

  abbrev pub Ends : ℕ → Spot → List ℕ → Type 0
  Ends i spot bytes = IsGood (segment_in plan (whole b) i) (at_spot spot) (d (i + 1) - d i) bytes

  spot_there : (i count : ℕ) (spot : Spot) → Reached plan b i (suc count) spot
      → spot_of (get_or b.handovers i start) (d i) ≡ spot
  spot_there i count spot reached =
      ap₂ (λ h n. spot_of h n) (reached.at (omega arith)) (sym reached.counted)
      ∙ handover_is_spot shape spot reached.is.few

  -- a segment that ends well
  pub good_there : (i count : ℕ) (spot : Spot) (bytes : List ℕ) (padded : PadSum)
      → Reached plan b i (suc count) spot → output i ≡ (bytes, Good padded)
      → (good : Ends i spot bytes) × (padded ≡ mcus_sum shape pads spot good.mcus)
  good_there i count spot bytes padded reached ends =
      let s : SegmentFields = segment_in plan (whole b) i in
      let run =
      started (starts s.stream) s (mcus_output s.count s (first_progress s)) bytes padded
      (good_with_place s 0 (rest_output s.count s (first_progress s)) bytes padded ends).0 in
      let from : mcus_output s.count s (at_spot spot) ≡ (bytes, Good padded) =
      ap (λ p. mcus_output s.count s (at_spot p)) (sym (spot_there i count spot reached)) ∙ run in
      good_has_its_stream s (at_spot spot) s.count bytes padded
      (record { few = few; next = got_all IsHandover b.handovers (i + 1) each })
      reached.is (none_given s.grid s.stream grid) from

  -- what the next segment starts from is what was reached
  next_start : (found : HandoverFields) (i : ℕ) → i < length b.handovers
      → Meets found (slice_get b.handovers i) → get_or b.handovers i start ≡ found
  next_start found i within meets =
      sym (subst (Meets found) (got_at b.handovers i start within) meets)

  pub reached_next : (i count : ℕ) (spot : Spot) (bytes : List ℕ)
      → i + suc count ≤ length b.handovers
      → Reached plan b i (suc count) spot → (good : Ends i spot bytes)
      → Reached plan b (i + 1) count good.end
  reached_next i count spot bytes within reached good =
      let order = cuts.order i (omega (arith, within)) in
      let begun =
      spots_are_begun shape (bit_for pads) good.mcus spot good.end bytes reached.is.few good.text in
      let long = good.long in
      let counted = reached.counted in
      record {
        is = spot_kept shape (bit_for pads) good.mcus spot good.end bytes good.each reached.is good.text;
        counted = omega (arith, begun.1, long, counted, order);
        at = λ more. next_start (handover_of shape good.end) (i + 1)
            (omega (arith, more, within)) good.seam;
      }
