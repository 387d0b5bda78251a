-- The measures of segments, wave by wave.
use Rattle.std.proofs.Common.{◌≡◌, ℕ, suc, ◌+◌, ◌-◌, ◌<◌, ◌≤◌, Bool, false, if◌then◌else◌, [], ◌∷◌, ◌++◌, List, length, refl, sym, ap, subst, ◌∙◌, arith, append_assoc, append-nil}
use Rattle.std.specs.Prelude.{All, slice_index_or}
use Rattle.std.proofs.lemmas.Bool.{lt-ltb}
use Rattle.handover.specs.declared.outcome.Outcome.{Outcome}
use Rattle.handover.specs.declared.outcome.Outcome.TheVariants.{Good, Bad}
use Rattle.handover.specs.declared.outcome.StreamFault.{StreamFault}
use Rattle.handover.specs.declared.pads.PadSum.{PadSum}
use Rattle.box_format.specs.Parts.{BoxSeen}
use Rattle.container_spec.specs.Segments.{Output, segment_output}
use Rattle.container_spec.specs.Meanings.{segment_in}
use Rattle.container_spec.specs.ScansMeanings.{fault_after, led_output, outcome_after, output_at}
use Rattle.range_read.specs.Lanes.{AreAllMeasured, AreMeasuredUpTo, HasMeasured, IsLane, outputs_from}
use Rattle.range_read.specs.declared.lanes.Lane.{Lane}
use Rattle.range_read.specs.Measures.{After, AreMeasures, IsMeasure}
use Rattle.range_read.specs.declared.measure.Measure.{Measure}

-- ---- one segment

fault_same : (fault : StreamFault) → fault_after 0 fault ≡ fault
fault_same fault =
    let z : 0 + fault.segment ≡ fault.segment = omega arith in
    ap (λ (n : ℕ). let f : StreamFault = record { segment = n; cause = fault.cause } in f) z

outcome_same : (o : Outcome) → outcome_after 0 o ≡ o
outcome_same (Good padded) = refl
outcome_same (Bad fault) =
    ap (λ (f : StreamFault). let o : Outcome = Bad f in o) (fault_same fault)

-- one segment of a container of one scan
pub one_alone : (v : BoxSeen) (file : List BoxSeen) (segment : ℕ) → file ≡ v ∷ []
    → segment < length v.parts.handovers
    → output_at file segment ≡ segment_output (segment_in v.plan v.parts segment)
one_alone v file segment alone below =
    let output = segment_output (segment_in v.plan v.parts segment) in
    let by : Bool → Output =
    λ t. if t then led_output false 0 v segment else output_at [] segment in
    ap (λ (scans : List BoxSeen). output_at scans segment) alone
    ∙ ap by (lt-ltb segment (length v.parts.handovers) below)
    ∙ ap (λ (o : Outcome). let out : Output = (output.0, o) in out) (outcome_same output.1)

-- ---- lists of measures

-- either fact follows
after_either : (o : Outcome) {A B C : Type 0} → (A → C) → (B → C) → After o A B → C
after_either (Good padded) f g is = f is
after_either (Bad fault) f g is = g is

-- no more than segments
pub measures_few : (outputs : List Output) (measures : List Measure) → AreMeasures outputs measures
    → length measures ≤ length outputs
measures_few [] [] are = omega arith
measures_few [] (m ∷ measures) are = absurd are
measures_few (o ∷ outputs) [] are = absurd are
measures_few (o ∷ outputs) (m ∷ measures) are =
    let few : length measures ≤ length outputs =
    after_either o.1 (λ next. measures_few outputs measures next) (λ few. few) are.1 in
    omega (arith, few)

-- ---- the segments of a container, one after another

module _ (v : BoxSeen) where
  -- before the first
  pub none_measured : (measures : List Measure) → measures ≡ [] → AreMeasuredUpTo v 0 measures
  none_measured measures none = λ more are.
      let all : length v.parts.handovers - 0 ≡ length v.parts.handovers = omega arith in
      let left = subst (λ (n : ℕ). AreMeasures (outputs_from v 0 n) more) all are in
      subst (λ (l : List Measure). AreAllMeasured v (l ++ more)) (sym none) left

  module _ (segment : ℕ) (measures next : List Measure) (m : Measure)
      (below : segment < length v.parts.handovers) (so_far : AreMeasuredUpTo v segment measures)
      (is : IsMeasure (segment_output (segment_in v.plan v.parts segment)) m)
      (kept : next ≡ measures ++ m ∷ []) where
    -- one more, and then others
    one_more : (more : List Measure)
        → (let rest = outputs_from v (segment + 1) (length v.parts.handovers - (segment + 1)) in
        After (segment_output (segment_in v.plan v.parts segment)).1 (AreMeasures rest more)
        (length more ≤ length rest))
        → AreAllMeasured v (next ++ more)
    one_more more after =
        let e : suc (length v.parts.handovers - (segment + 1)) ≡ length v.parts.handovers - segment =
        omega (arith, below) in
        let all = subst (λ (n : ℕ). AreMeasures (outputs_from v segment n) (m ∷ more)) e (is, after) in
        let same : measures ++ m ∷ more ≡ next ++ more =
        sym (append_assoc measures (m ∷ []) more)
        ∙ ap (λ (l : List Measure). l ++ more) (sym kept) in
        subst (λ (l : List Measure). AreAllMeasured v l) same (so_far (m ∷ more) all)

    -- which ends well
    pub good_measured : (padded : PadSum) → m.outcome ≡ Good padded
        → AreMeasuredUpTo v (segment + 1) next
    good_measured padded good = λ more are.
        let rest = outputs_from v (segment + 1) (length v.parts.handovers - (segment + 1)) in
        one_more more
        (subst (λ (o : Outcome). After o (AreMeasures rest more) (length more ≤ length rest))
        (sym good ∙ is.outcome) are)

    -- or badly
    pub bad_measured : (fault : StreamFault) → m.outcome ≡ Bad fault → AreAllMeasured v next
    bad_measured fault bad =
        let rest = outputs_from v (segment + 1) (length v.parts.handovers - (segment + 1)) in
        let few : length (let none : List Measure = [] in none) ≤ length rest = omega arith in
        subst (λ (l : List Measure). AreAllMeasured v l) (append-nil next)
        (one_more []
        (subst (λ (o : Outcome). After o (AreMeasures rest []) (length (let none : List Measure = [] in none) ≤ length rest))
        (sym bad ∙ is.outcome) few))

  -- after the last one
  pub all_measured : (segment : ℕ) (measures : List Measure) → length v.parts.handovers ≤ segment
      → AreMeasuredUpTo v segment measures → AreAllMeasured v measures
  all_measured segment measures past so_far =
      let none : 0 ≡ length v.parts.handovers - segment = omega (arith, past) in
      subst (λ (l : List Measure). AreAllMeasured v l) (append-nil measures)
      (so_far [] (subst (λ (n : ℕ). AreMeasures (outputs_from v segment n) []) none tt))

-- ---- the lanes

-- after a wave
pub lanes_after : (v : BoxSeen) (first next : ℕ) (lanes after : List Lane) → All (IsLane v first) lanes
    → length after ≡ length lanes → first < next
    → ((i : ℕ) (lane : Lane) → i < length lanes
    → HasMeasured v first i (slice_index_or lanes i lane) (slice_index_or after i lane))
    → All (IsLane v next) after
lanes_after v first next lanes after before long later each = λ k d within.
    let inside : k < length lanes = omega (arith, within, long) in
    let was = before k d inside in
    let is = each k d inside in
    let few = was.few in
    let more = is.few in record {
      plans = is.plans ∙ was.plans;
      few = omega (arith, few, more, later);
    }
