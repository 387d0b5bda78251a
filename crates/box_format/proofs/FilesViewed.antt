-- The scans of a container that was read.
use Rattle.std.proofs.Common.{◌≡◌, ◌<◌, ◌≤◌, ◌+◌, ◌++◌, append-nil, ℕ, zero, suc, List, [], ◌∷◌, length, take, drop, map, get_or, refl, sym, ap, ap₂, ◌∙◌, arith, subst, drop-cons, add-one}
use Rattle.std.specs.Prelude.{Some, slice_get}
use Rattle.std.proofs.lemmas.List.{drop_all, length-take-le}
use Rattle.std.proofs.lemmas.Option.{slice_get_read, slice_get_within, get_or_from_slice_get}
use Rattle.std.specs.List.{range_with_len}
use Rattle.jpeg_marker.specs.Plans.{PlanFields}
use Rattle.jpeg_marker.specs.Walks.{Walk, next_walk}
use Rattle.jpeg_marker.specs.FirstWalks.{opening_walk}
use Rattle.box_format.specs.Versions.{layout_of}
use Rattle.box_format.specs.Parts.{BoxSeen, IsScanBox}
use Rattle.box_format.specs.Raws.{Raw, parts_of}
use Rattle.box_format.specs.Containers.{AreBoxes, IsContainerIn, all_parts, segment_count, trailer_of}
use Rattle.box_format.specs.Fields.{scans_in, scan_raw, raws_as}
use Rattle.box_format.specs.Checks.{HeadersPass, boxes_of}
use Rattle.box_format.specs.declared.version.Version.{Version}
use Rattle.box_format.proofs.Lists.{sum_first}
use Rattle.box_format.proofs.Spelling.{some_is_one}

-- ---- plans and fields, both of all scans

plans_again : (plans : List PlanFields) (raws : List Raw) → length plans ≡ length raws
    → map (λ (s : BoxSeen). s.plan) (boxes_of plans raws) ≡ plans
plans_again [] raws e = refl
plans_again (plan ∷ plans) [] e = absurd (omega arith)
plans_again (plan ∷ plans) (raw ∷ raws) e =
    ap (λ (l : List PlanFields). plan ∷ l) (plans_again plans raws (omega arith))

boxes_count : (plans : List PlanFields) (raws : List Raw) → length plans ≡ length raws
    → length (boxes_of plans raws) ≡ length plans
boxes_count [] raws e = refl
boxes_count (plan ∷ plans) [] e = absurd (omega arith)
boxes_count (plan ∷ plans) (raw ∷ raws) e =
    let later = boxes_count plans raws (omega arith) in omega (arith, later)

abbrev pub seen_with : PlanFields → Raw → BoxSeen
seen_with plan raw = record { plan = plan; parts = parts_of raw }

box_at : (plans : List PlanFields) (raws : List Raw) (j : ℕ) (plan : PlanFields) (raw : Raw)
    → slice_get plans j ≡ Some plan → slice_get raws j ≡ Some raw
    → slice_get (boxes_of plans raws) j ≡ Some (seen_with plan raw)
box_at [] raws j plan raw e f = cc
box_at (x ∷ plans) [] j plan raw e f = cc
box_at (x ∷ plans) (y ∷ raws) zero plan raw e f =
    ap₂ (λ (p : PlanFields) (r : Raw). Some (seen_with p r)) (some_is_one x plan e)
    (some_is_one y raw f)
box_at (x ∷ plans) (y ∷ raws) (suc j) plan raw e f = box_at plans raws j plan raw e f

value_got : {A : Type 0} (f : ℕ → A) (from j n : ℕ) → j < n
    → slice_get (map f (range_with_len from n)) j ≡ Some (f (from + j))
value_got f from j zero below = absurd (omega arith)
value_got f from zero (suc n) below = let z : from ≡ from + 0 = omega arith in ap (λ k. Some (f k)) z
value_got f from (suc j) (suc n) below =
    let k : from + 1 + j ≡ from + suc j = omega arith in
    value_got f (from + 1) j n (omega arith) ∙ ap (λ k. Some (f k)) k

plans_count : (w : Walk) (plans : List PlanFields) (raws : List Raw) → HeadersPass w raws plans
    → length plans ≡ length raws
plans_count w [] [] headers = refl
plans_count w [] (raw ∷ raws) headers = absurd headers
plans_count w (plan ∷ plans) [] headers = absurd headers
plans_count w (plan ∷ plans) (raw ∷ raws) headers =
    let later = plans_count (next_walk plan.known 0) plans raws headers.2 in omega (arith, later)

pub plans_back : (plans : List PlanFields) (raws : List Raw) → HeadersPass opening_walk raws plans
    → map (λ (s : BoxSeen). s.plan) (boxes_of plans raws) ≡ plans
plans_back plans raws passed = plans_again plans raws (plans_count opening_walk plans raws passed)

count_back : (plans : List PlanFields) (raws : List Raw) → HeadersPass opening_walk raws plans
    → length (boxes_of plans raws) ≡ length plans
count_back plans raws passed = boxes_count plans raws (plans_count opening_walk plans raws passed)

-- the plan of a number, as it is looked up
pub plan_got : (plans : List PlanFields) (raws : List Raw) (scans : List BoxSeen)
    (seen : List PlanFields) (j at : ℕ) (plan : PlanFields) → HeadersPass opening_walk raws plans
    → boxes_of plans raws ≡ scans → seen ≡ map (λ (s : BoxSeen). s.plan) scans → at ≡ j
    → j < length scans → plan ≡ get_or seen at plan → slice_get plans j ≡ Some plan
plan_got plans raws scans seen j at plan passed view e f below is =
    let same : seen ≡ plans =
    e ∙ ap (λ (l : List BoxSeen). map (λ (s : BoxSeen). s.plan) l) (sym view)
    ∙ plans_back plans raws passed in
    let count : length scans ≡ length plans =
    ap (λ (l : List BoxSeen). length l) (sym view) ∙ count_back plans raws passed in
    slice_get_read plans (length plans) j plan refl (omega (arith, below, count))
    (is ∙ ap₂ (λ (l : List PlanFields) (k : ℕ). get_or l k plan) same f)

pub count_is : (plans : List PlanFields) (raws : List Raw) (scans : List BoxSeen) (n : ℕ)
    → HeadersPass opening_walk raws (take n plans) → boxes_of (take n plans) raws ≡ scans
    → n ≤ length plans → n ≡ length scans
count_is plans raws scans n passed view few =
    sym (count_back (take n plans) raws passed ∙ length-take-le n plans few)
    ∙ ap (λ (l : List BoxSeen). length l) view

-- ---- a scan by its number

scan_is : (w : Walk) (scans : List BoxSeen) (j : ℕ) (s : BoxSeen) → AreBoxes w scans
    → slice_get scans j ≡ Some s → IsScanBox s.plan s.parts
scan_is w [] j s are e = absurd are
scan_is w (x ∷ []) zero s are e =
    subst (λ (s : BoxSeen). IsScanBox s.plan s.parts) (some_is_one x s e) (w, are.0)
scan_is w (x ∷ []) (suc j) s are e = cc
scan_is w (x ∷ y ∷ scans) zero s are e =
    subst (λ (s : BoxSeen). IsScanBox s.plan s.parts) (some_is_one x s e) (w, are.0)
scan_is w (x ∷ y ∷ scans) (suc j) s are e =
    scan_is (next_walk x.plan.known 0) (y ∷ scans) j s are.3 e

pub record IsScanAt (v : Version) (plans : List PlanFields) (bytes : List ℕ) (j : ℕ)
    (plan : PlanFields) : Type 0 where
  pub is : IsScanBox plan (parts_of (scan_raw v bytes j))
  pub got : slice_get (boxes_of plans (raws_as v bytes)) j
      ≡ Some (seen_with plan (scan_raw v bytes j))

pub scan_at : (v : Version) (plans : List PlanFields) (bytes : List ℕ) (j : ℕ) (plan : PlanFields)
    → IsContainerIn v (boxes_of plans (raws_as v bytes)) bytes
    → j < scans_in (layout_of v) bytes → slice_get plans j ≡ Some plan
    → IsScanAt v plans bytes j plan
scan_at v plans bytes j plan is below here =
    let z : 0 + j ≡ j = omega arith in
    let raw : slice_get (raws_as v bytes) j ≡ Some (scan_raw v bytes j) =
    value_got (scan_raw v bytes) 0 j (scans_in (layout_of v) bytes) below
    ∙ ap (λ (k : ℕ). Some (scan_raw v bytes k)) z in
    let got = box_at plans (raws_as v bytes) j plan (scan_raw v bytes j) here raw in
    record {
      is = scan_is opening_walk (boxes_of plans (raws_as v bytes)) j
          (seen_with plan (scan_raw v bytes j)) is.are.each got;
      got = got;
    }

-- ---- how many segments there are

pub segments_next : (scans : List BoxSeen) (j : ℕ) (s : BoxSeen) → slice_get scans j ≡ Some s
    → segment_count (drop j scans) ≡ length s.parts.handovers + segment_count (drop (j + 1) scans)
segments_next scans j s here =
    let below = slice_get_within scans j s here in
    let first : drop j scans ≡ s ∷ drop (j + 1) scans =
    drop-cons scans j s below
    ∙ ap₂ (λ (x : BoxSeen) (k : ℕ). x ∷ drop k scans) (get_or_from_slice_get scans j s s here)
    (sym (add-one j)) in
    ap segment_count first
    ∙ sum_first (length s.parts.handovers)
    (map (λ (s : BoxSeen). length s.parts.handovers) (drop (j + 1) scans))

-- no segment is left after the last scan
pub segments_end : (scans : List BoxSeen) (j : ℕ) → length scans ≤ j
    → segment_count (drop j scans) ≡ 0
segments_end scans j past = ap segment_count (drop_all j scans past)

-- ---- what follows the last scan

one_trailer : (x s : BoxSeen) (j : ℕ) → slice_get (x ∷ []) j ≡ Some s
    → s.parts.trailer ≡ trailer_of (all_parts (x ∷ []))
one_trailer x s zero e =
    ap (λ (u : BoxSeen). u.parts.trailer) (sym (some_is_one x s e)) ∙ sym (append-nil x.parts.trailer)
one_trailer x s (suc j) e = cc

pub last_trailer : (w : Walk) (scans : List BoxSeen) (j : ℕ) (s : BoxSeen) → AreBoxes w scans
    → slice_get scans j ≡ Some s → j + 1 ≡ length scans
    → s.parts.trailer ≡ trailer_of (all_parts scans)
last_trailer w [] j s are e last = absurd are
last_trailer w (x ∷ []) j s are e last = one_trailer x s j e
last_trailer w (x ∷ y ∷ scans) zero s are e last = absurd (omega (arith, last))
last_trailer w (x ∷ y ∷ scans) (suc j) s are e last =
    last_trailer (next_walk x.plan.known 0) (y ∷ scans) j s are.3 e (omega (arith, last))
    ∙ ap (λ (l : List ℕ). l ++ trailer_of (all_parts (y ∷ scans))) (sym are.2)
