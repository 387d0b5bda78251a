-- The places of segments by their measures, and what a container stands for by these.
use Rattle.std.proofs.Common.{◌≡◌, ℕ, ◌+◌, ◌*◌, ◌^◌, ◌<◌, ◌≤◌, if◌then◌else◌, Bool, List, [], ◌∷◌, ◌++◌, length, Option, Some, None, refl, sym, ap, ap₂, subst, ◌∙◌, arith, append_assoc}
use Rattle.std.proofs.lemmas.List.FromFn.{length-map-range_with_len}
use Rattle.jpeg_marker.specs.Plans.{PlanFields}
use Rattle.scan_spec.specs.Pads.{is_spelled}
use Rattle.handover.specs.PadSums.{no_pads, pads_with}
use Rattle.handover.specs.declared.outcome.Outcome.{Outcome}
use Rattle.handover.specs.declared.outcome.Outcome.TheVariants.{Good, Bad}
use Rattle.handover.specs.declared.outcome.StreamFault.{StreamFault}
use Rattle.handover.specs.declared.pads.PadSum.{PadSum}
use Rattle.handover.proofs.PadsSummed.{sums_more, sums_none}
use Rattle.box_format.specs.Parts.{BoxParts, BoxSeen}
use Rattle.box_format.specs.Versions.{most_segments}
use Rattle.box_format.proofs.ScansFaults.{and_true}
use Rattle.container_spec.specs.Segments.{Output, segment_output}
use Rattle.container_spec.specs.Meanings.{Faulty, Meaning, PadSpelled, Restored, segment_in}
use Rattle.container_spec.proofs.JoinedSegments.{Joined, joined, joined_alone, joined_with}
use Rattle.container_spec.proofs.PortionsMeant.{file_alone}
use Rattle.container_spec.specs.declared.kind.Kind.TheVariants.{File}
use Rattle.container_spec.specs.Portions.{ending_by, meaning_of, whole}
use Rattle.container_spec.specs.Indexed.{places_after, places_found, outputs_of}
use Rattle.container_spec.proofs.PlacesFound.{found_long}
use Rattle.segment_worker.specs.Contents.{segment_room}
use Rattle.range_read.specs.Measures.{After, AreMeasures, IsCounted}
use Rattle.range_read.specs.declared.measure.Measure.{Measure}
use Rattle.range_read.proofs.MeasuredSegments.{measures_few}

-- ---- what a container stands for

-- the first fault
pub faulty : (plan : PlanFields) (b : BoxParts) (fault : StreamFault) → b.chunk ≡ None
    → (joined (outputs_of plan b)).fault ≡ Some fault → (meaning_of plan b).verdict ≡ Faulty fault
faulty plan b fault none some =
    let s : BoxSeen = record { plan = plan; parts = b } in
    let all = joined_alone (joined (outputs_of plan b)) in
    ap (λ (m : Meaning). m.verdict) (file_alone s none)
    ∙ ap (λ (f : Option StreamFault). (ending_by File (s ∷ []) (whole (s ∷ [])) all f).verdict) some

-- without one a file whose pad bits are spelled so or not
pub spelled : (plan : PlanFields) (b : BoxParts) (padded : PadSum) (t : Bool) → b.chunk ≡ None
    → (joined (outputs_of plan b)).fault ≡ None → (joined (outputs_of plan b)).padded ≡ padded
    → is_spelled b.pads padded ≡ t
    → (meaning_of plan b).verdict ≡ (if t then Restored else PadSpelled)
spelled plan b padded t none good sum is =
    let s : BoxSeen = record { plan = plan; parts = b } in
    let j = joined (outputs_of plan b) in
    let all = joined_alone j in
    ap (λ (m : Meaning). m.verdict) (file_alone s none)
    ∙ ap (λ (f : Option StreamFault). (ending_by File (s ∷ []) (whole (s ∷ [])) all f).verdict) good
    ∙ ap (λ (p : Bool). if p then Restored else PadSpelled)
    (and_true (is_spelled b.pads j.padded) ∙ ap (λ (p : PadSum). is_spelled b.pads p) sum ∙ is)

-- as many places as segments, and one more
pub found_count : (plan : PlanFields) (b : BoxParts)
    → length (places_found plan b) ≡ length b.handovers + 1
found_count plan b =
    let long = found_long (length b.header) (outputs_of plan b) in
    let many = length-map-range_with_len (λ i. segment_output (segment_in plan b i)) 0 (length b.handovers) in
    omega (arith, long, many)

-- ---- measures, one after another

-- good segments with these bytes before others, and what they padded
abbrev pub joined_onto : List ℕ → PadSum → Joined → Joined
joined_onto bytes padded more = record {
  bytes = bytes ++ more.bytes;
  fault = more.fault;
  padded = pads_with padded more.padded;
}

-- no segment has more bytes
abbrev pub room : ℕ
room = segment_room * most_segments

-- what was found of the segments before those whose measures are left, which all end well
pub record PlacesSoFar (plan : PlanFields) (b : BoxParts) (left : List Measure)
    (places : List ℕ) (place : ℕ) (pads : PadSum) : Type 0 where
  pub rest : List Output
  pub are : AreMeasures rest left
  pub found : places ++ places_after place rest ≡ places_found plan b
  pub bytes : List ℕ
  pub all : joined (outputs_of plan b) ≡ joined_onto bytes pads (joined rest)
  pub few : place + room * length left ≤ 2 ^ 32 + room * most_segments

-- before the first
pub no_places : (plan : PlanFields) (b : BoxParts) (measures : List Measure)
    → AreMeasures (outputs_of plan b) measures → length b.header < 2 ^ 32
    → length (outputs_of plan b) ≤ most_segments
    → PlacesSoFar plan b measures [] (length b.header) no_pads
no_places plan b measures are fits few =
    let long = measures_few (outputs_of plan b) measures are in record {
      rest = outputs_of plan b;
      are = are;
      found = refl;
      bytes = [];
      all = refl;
      few = omega (arith, long, fits, few);
    }

-- a place fits in 64 bits
pub place_fits : (plan : PlanFields) (b : BoxParts) (left : List Measure) (places : List ℕ)
    (place : ℕ) (pads : PadSum) → PlacesSoFar plan b left places place pads → place < 2 ^ 64
place_fits plan b left places place pads s = let few = s.few in omega (arith, few)

-- after a segment that ends well
good_next : (plan : PlanFields) (b : BoxParts) (m : Measure) (left : List Measure)
    (places : List ℕ) (place : ℕ) (pads more : PadSum) (rest : List Output) (bytes : List ℕ)
    → AreMeasures rest (m ∷ left) → places ++ places_after place rest ≡ places_found plan b
    → joined (outputs_of plan b) ≡ joined_onto bytes pads (joined rest)
    → place + room * length (m ∷ left) ≤ 2 ^ 32 + room * most_segments → m.outcome ≡ Good more
    → PlacesSoFar plan b left (places ++ place ∷ []) (place + m.length) (pads_with pads more)
good_next plan b m left places place pads more [] bytes are found all few good = absurd are
good_next plan b m left places place pads more (o ∷ rest) bytes are found all few good =
    let outcome : o.1 ≡ Good more = sym are.0.outcome ∙ good in
    let count = subst (λ (x : Outcome). IsCounted x o.0 m.length) outcome are.0.count in
    let short = count.1 in record {
      rest = rest;
      are = subst (λ (x : Outcome). After x (AreMeasures rest left) (length left ≤ length rest)) outcome are.1;
      found =
          append_assoc places (place ∷ []) (places_after (place + m.length) rest)
          ∙ ap (λ (n : ℕ). places ++ place ∷ places_after (place + n) rest) count.0 ∙ found;
      bytes = bytes ++ o.0;
      all =
          all
          ∙ ap (λ (x : Outcome). joined_onto bytes pads (joined_with o.0 x (joined rest))) outcome
          ∙ ap₂ (λ (l : List ℕ) (p : PadSum).
          let j : Joined = record { bytes = l; fault = (joined rest).fault; padded = p } in j)
          (sym (append_assoc bytes o.0 (joined rest).bytes))
          (sym (sums_more pads more (joined rest).padded));
      few = omega (arith, few, short);
    }

pub good_place : (plan : PlanFields) (b : BoxParts) (m : Measure) (before left : List Measure)
    (places next : List ℕ) (place : ℕ) (pads more both : PadSum)
    → PlacesSoFar plan b before places place pads → before ≡ m ∷ left → m.outcome ≡ Good more
    → next ≡ places ++ place ∷ [] → both ≡ pads_with pads more
    → PlacesSoFar plan b left next (place + m.length) both
good_place plan b m before left places next place pads more both s front good pushed sum =
    rw (pushed, sum)
    (good_next plan b m left places place pads more s.rest s.bytes
    (subst (λ (l : List Measure). AreMeasures s.rest l) front s.are) s.found s.all
    (let few = s.few in let long = ap length front in omega (arith, few, long)) good)

-- the next place fits in 64 bits
pub next_fits : (plan : PlanFields) (b : BoxParts) (m : Measure) (before left : List Measure)
    (places : List ℕ) (place : ℕ) (pads more : PadSum)
    → PlacesSoFar plan b before places place pads → before ≡ m ∷ left → m.outcome ≡ Good more
    → place + m.length < 2 ^ 64
next_fits plan b m before left places place pads more s front good =
    let next = good_place plan b m before left places (places ++ place ∷ []) place pads more
    (pads_with pads more) s front good refl refl in
    place_fits plan b left (places ++ place ∷ []) (place + m.length) (pads_with pads more) next

-- at one that ends badly
bad_next : (plan : PlanFields) (b : BoxParts) (m : Measure) (left : List Measure) (pads : PadSum)
    (fault : StreamFault) (rest : List Output) (bytes : List ℕ) → AreMeasures rest (m ∷ left)
    → joined (outputs_of plan b) ≡ joined_onto bytes pads (joined rest) → m.outcome ≡ Bad fault
    → (joined (outputs_of plan b)).fault ≡ Some fault
bad_next plan b m left pads fault [] bytes are all bad = absurd are
bad_next plan b m left pads fault (o ∷ rest) bytes are all bad =
    ap (λ (j : Joined). j.fault) all
    ∙ ap (λ (x : Outcome). (joined_with o.0 x (joined rest)).fault) (sym are.0.outcome ∙ bad)

pub bad_place : (plan : PlanFields) (b : BoxParts) (m : Measure) (before left : List Measure)
    (places : List ℕ) (place : ℕ) (pads : PadSum) (fault : StreamFault)
    → b.chunk ≡ None → PlacesSoFar plan b before places place pads → before ≡ m ∷ left
    → m.outcome ≡ Bad fault → (meaning_of plan b).verdict ≡ Faulty fault
bad_place plan b m before left places place pads fault none s front bad =
    faulty plan b fault none
    (bad_next plan b m left pads fault s.rest s.bytes
    (subst (λ (l : List Measure). AreMeasures s.rest l) front s.are) s.all bad)

-- ---- after the last one

last_is : (rest : List Output) (left : List Measure) → AreMeasures rest left → length left ≡ 0
    → rest ≡ []
last_is [] left are none = refl
last_is (o ∷ rest) [] are none = absurd are
last_is (o ∷ rest) (m ∷ left) are none = absurd (omega (arith, none))

-- all places are found
pub all_places : (plan : PlanFields) (b : BoxParts) (left : List Measure) (places next : List ℕ)
    (place : ℕ) (pads : PadSum) → PlacesSoFar plan b left places place pads → length left ≡ 0
    → next ≡ places ++ place ∷ [] → next ≡ places_found plan b
all_places plan b left places next place pads s none pushed =
    pushed
    ∙ ap (λ (l : List Output). places ++ places_after place l)
    (sym (last_is s.rest left s.are none)) ∙ s.found

-- no segment ends badly, so how the pad bits are spelled decides
pub all_spelled : (plan : PlanFields) (b : BoxParts) (left : List Measure) (places : List ℕ)
    (place : ℕ) (pads : PadSum) (t : Bool) → PlacesSoFar plan b left places place pads
    → length left ≡ 0 → b.chunk ≡ None → is_spelled b.pads pads ≡ t
    → (meaning_of plan b).verdict ≡ (if t then Restored else PadSpelled)
all_spelled plan b left places place pads t s none whole is =
    let all : joined (outputs_of plan b) ≡ joined_onto s.bytes pads (joined []) =
    s.all
    ∙ ap (λ (l : List Output). joined_onto s.bytes pads (joined l))
    (last_is s.rest left s.are none) in
    spelled plan b pads t whole (ap (λ (j : Joined). j.fault) all)
    (ap (λ (j : Joined). j.padded) all ∙ sums_none pads) is
