-- The scan that has a segment of a container, found by counting the segments of the scans before it.
use Rattle.std.proofs.Common.{◌≡◌, ◌<◌, ◌≤◌, ◌+◌, ◌-◌, if◌then◌else◌, Bool, true, false, ℕ, zero, suc, List, [], ◌∷◌, length, drop, map, sym, ap, ap₂, ◌∙◌, arith}
use Rattle.std.specs.Prelude.{Some, nat_lt, slice_get}
use Rattle.std.proofs.lemmas.Bool.{le-ltb, lt-ltb}
use Rattle.box_format.specs.Parts.{BoxSeen}
use Rattle.box_format.proofs.Lists.{sum_first}
use Rattle.box_format.specs.Containers.{all_plans, segment_count}
use Rattle.container_spec.specs.ScansMeanings.{lead_at, lead_from, lead_of, led_output, output_at, output_from, scan_of}

-- so many segments are before a scan, and the segment isn't one of them
pub record IsBefore (scans : List BoxSeen) (segment scan before : ℕ) : Type 0 where
  pub counted : before + segment_count (drop scan scans) ≡ segment_count scans
  pub within : before ≤ segment
  pub output : output_at scans segment
      ≡ output_from (nat_lt 0 scan) before (drop scan scans) (segment - before)
  pub lead : lead_at scans segment
      ≡ lead_from (nat_lt 0 scan) (drop scan scans) (segment - before)
  pub number : scan_of 0 scans segment ≡ scan_of scan (drop scan scans) (segment - before)

-- before the first scan
pub none_before : (scans : List BoxSeen) (segment : ℕ) → IsBefore scans segment 0 0
none_before scans segment =
    let z : segment ≡ segment - 0 = omega arith in
    record {
      counted = omega arith;
      within = omega arith;
      output = ap (λ (n : ℕ). output_from false 0 scans n) z;
      lead = ap (λ (n : ℕ). lead_from false scans n) z;
      number = ap (λ (n : ℕ). scan_of 0 scans n) z;
    }

drop_next : (scans : List BoxSeen) (scan : ℕ) (s : BoxSeen) → slice_get scans scan ≡ Some s
    → drop scan scans ≡ s ∷ drop (scan + 1) scans
drop_next [] scan s e = cc
drop_next (x ∷ scans) zero s e = let same : x ≡ s = cc in ap (λ (y : BoxSeen). y ∷ scans) same
drop_next (x ∷ scans) (suc n) s e =
    let k : suc (n + 1) ≡ suc n + 1 = omega arith in
    drop_next scans n s e ∙ ap (λ (m : ℕ). s ∷ drop m (x ∷ scans)) k

-- the segment is one of the scan
pub segment_here : (scans : List BoxSeen) (segment scan before : ℕ) (s : BoxSeen)
    → IsBefore scans segment scan before → slice_get scans scan ≡ Some s
    → segment - before < length s.parts.handovers
    → (output_at scans segment ≡ led_output (nat_lt 0 scan) before s (segment - before))
    × (lead_at scans segment ≡ lead_of (nat_lt 0 scan) s.parts.header (segment - before))
    × (scan ≡ scan_of 0 scans segment)
segment_here scans segment scan before s is e below =
    let i : ℕ = segment - before in
    let later : Bool = nat_lt 0 scan in
    let next = drop_next scans scan s e in
    let here = lt-ltb i (length s.parts.handovers) below in
    let rest = drop (scan + 1) scans in (
      is.output ∙ ap (λ (l : List BoxSeen). output_from later before l i) next
          ∙ ap (λ (t : Bool). if t then led_output later before s i
          else output_from true (before + length s.parts.handovers) rest
          (i - length s.parts.handovers)) here,
      is.lead ∙ ap (λ (l : List BoxSeen). lead_from later l i) next
          ∙ ap (λ (t : Bool). if t then lead_of later s.parts.header i
          else lead_from true rest (i - length s.parts.handovers)) here,
      sym (is.number ∙ ap (λ (l : List BoxSeen). scan_of scan l i) next
          ∙ ap (λ (t : Bool). if t then scan
          else scan_of (scan + 1) rest (i - length s.parts.handovers)) here),
    )

later_scan : (scan : ℕ) → true ≡ nat_lt 0 (scan + 1)
later_scan scan = sym (lt-ltb 0 (scan + 1) (omega arith))

-- or it isn't
pub segment_later : (scans : List BoxSeen) (segment scan before count : ℕ) (s : BoxSeen)
    → IsBefore scans segment scan before → slice_get scans scan ≡ Some s
    → count ≡ length s.parts.handovers → count ≤ segment - before
    → IsBefore scans segment (scan + 1) (before + count)
segment_later scans segment scan before count s is e c past =
    let k : ℕ = length s.parts.handovers in
    let i : ℕ = segment - before in
    let later : Bool = nat_lt 0 scan in
    let next = drop_next scans scan s e in
    let rest = drop (scan + 1) scans in
    let there = le-ltb i k (omega (arith, c, past)) in
    let within = is.within in
    let left : i - k ≡ segment - (before + count) = omega (arith, c, past, within) in
    let more : before + k ≡ before + count = omega (arith, c) in
    let counted = is.counted in
    let all : segment_count (drop scan scans) ≡ k + segment_count (drop (scan + 1) scans) =
    ap segment_count next
    ∙ sum_first k (map (λ (t : BoxSeen). length t.parts.handovers) rest) in
    record {
      counted = omega (arith, c, counted, all);
      within = omega (arith, past, within);
      output = is.output ∙ ap (λ (l : List BoxSeen). output_from later before l i) next
          ∙ ap (λ (t : Bool). if t then led_output later before s i
          else output_from true (before + k) rest (i - k)) there
          ∙ ap (λ (t : Bool). output_from t (before + k) rest (i - k)) (later_scan scan)
          ∙ ap₂ (λ (n m : ℕ). output_from (nat_lt 0 (scan + 1)) n rest m) more left;
      lead = is.lead ∙ ap (λ (l : List BoxSeen). lead_from later l i) next
          ∙ ap (λ (t : Bool). if t then lead_of later s.parts.header i
          else lead_from true rest (i - k)) there
          ∙ ap (λ (t : Bool). lead_from t rest (i - k)) (later_scan scan)
          ∙ ap (λ (m : ℕ). lead_from (nat_lt 0 (scan + 1)) rest m) left;
      number = is.number ∙ ap (λ (l : List BoxSeen). scan_of scan l i) next
          ∙ ap (λ (t : Bool). if t then scan else scan_of (scan + 1) rest (i - k)) there
          ∙ ap (λ (m : ℕ). scan_of (scan + 1) rest m) left;
    }

-- the plan of a scan
pub plan_of : (scans : List BoxSeen) (scan : ℕ) (s : BoxSeen) → slice_get scans scan ≡ Some s
    → slice_get (all_plans scans) scan ≡ Some s.plan
plan_of [] scan s e = cc
plan_of (x ∷ scans) zero s e = let same : x ≡ s = cc in ap (λ (y : BoxSeen). Some y.plan) same
plan_of (x ∷ scans) (suc n) s e = plan_of scans n s e
