-- Headers that are read one by one.
use Rattle.std.proofs.Common.{◌≡◌, ◌<◌, ◌≤◌, ◌+◌, ◌-◌, if◌then◌else◌, Bool, true, false, ℕ, suc, List, [], ◌∷◌, ◌++◌, length, take, map, replicate, nat_lt, slice_set, refl, sym, ap, ◌∙◌, arith, subst, append_assoc, inl, inr}
use Rattle.std.specs.List.{AllByRecursion, range_with_len}
use Rattle.std.proofs.lemmas.Bool.{ltb-true, ltb-false}
use Rattle.std.proofs.lemmas.List.{append-nil, length-set, take_all, take_more_set}
use Rattle.bit_list.specs.Bits.{IsByte}
use Rattle.jpeg_marker.specs.KnownBefore.{AreKnown}
use Rattle.jpeg_marker.specs.Plans.{PlanFields}
use Rattle.jpeg_marker.specs.Walks.{Walk, next_walk}
use Rattle.jpeg_marker.specs.FirstWalks.{opening_walk}
use Rattle.jpeg_marker.specs.HeaderPlan.{Begins}
use Rattle.jpeg_marker.proofs.HeadersTaken.{begun_has_plan, next_known}
use Rattle.box_format.specs.Versions.{layout_of}
use Rattle.box_format.specs.Raws.{Raw}
use Rattle.box_format.specs.declared.version.Version.{Version}
use Rattle.box_format.specs.declared.refusal.BoxRefusal.{BoxRefusal}
use Rattle.box_format.specs.Fields.{scans_in, scan_raw, raws_as}
use Rattle.box_format.specs.Checks.{HeadersPass, HeadersFail}
use Rattle.box_format.specs.Whole.{IsWholeHeader, IsNoHeader, HavePlans, header_at}
use Rattle.box_format.proofs.RawParts.{raws_from}

-- a header that begins and is no longer than its plan's
pub one_plan : (w : Walk) (header : List ℕ) (plan : PlanFields) → AllByRecursion IsByte header
    → AreKnown w.known → Begins w header plan → length header ≤ plan.header_length
    → IsWholeHeader w header plan
one_plan w header plan are known is long =
    let has = begun_has_plan w header plan are known is in
    let within = has.within in
    record { begins = is; whole = omega (arith, within, long); known = next_known plan.known has.known }

-- ---- the fields of scans, one by one

pub raws_first : (v : Version) (bytes : List ℕ) (j : ℕ) → j < scans_in (layout_of v) bytes
    → raws_from v bytes j ≡ scan_raw v bytes j ∷ raws_from v bytes (j + 1)
raws_first v bytes j below =
    let k : scans_in (layout_of v) bytes - j ≡ suc (scans_in (layout_of v) bytes - (j + 1)) = omega arith in
    ap (λ (k : ℕ). map (scan_raw v bytes) (range_with_len j k)) k

pub raws_last : (v : Version) (bytes : List ℕ) (j : ℕ) → scans_in (layout_of v) bytes ≤ j → raws_from v bytes j ≡ []
raws_last v bytes j past =
    let k : scans_in (layout_of v) bytes - j ≡ 0 = omega arith in
    ap (λ (k : ℕ). map (scan_raw v bytes) (range_with_len j k)) k

pub raws_all : (v : Version) (bytes : List ℕ) → raws_as v bytes ≡ raws_from v bytes 0
raws_all v bytes =
    let k : scans_in (layout_of v) bytes ≡ scans_in (layout_of v) bytes - 0 = omega arith in
    ap (λ (k : ℕ). map (scan_raw v bytes) (range_with_len 0 k)) k

pub raw_header : (v : Version) (bytes : List ℕ) (j : ℕ) → header_at (layout_of v) bytes j ≡ (scan_raw v bytes j).header
unfolding scan_raw
raw_header v bytes j = refl

-- ---- a header more

fails_here : (w : Walk) (raw : Raw) (raws : List Raw) (refusal : BoxRefusal)
    → IsNoHeader w raw.header refusal → HeadersFail w (raw ∷ raws) refusal
fails_here w raw raws refusal (inl p) = inl p
fails_here w raw raws refusal (inr p) = inr (p.0, p.1, inl (p.2, p.3))

pub fails_at : (v : Version) (w : Walk) (bytes : List ℕ) (j : ℕ) (refusal : BoxRefusal) → j < scans_in (layout_of v) bytes
    → IsNoHeader w (header_at (layout_of v) bytes j) refusal → HeadersFail w (raws_from v bytes j) refusal
fails_at v w bytes j refusal below has =
    subst (λ (raws : List Raw). HeadersFail w raws refusal) (sym (raws_first v bytes j below))
    (fails_here w (scan_raw v bytes j) (raws_from v bytes (j + 1)) refusal
    (subst (λ (header : List ℕ). IsNoHeader w header refusal) (raw_header v bytes j) has))

fails_later : (w : Walk) (raw : Raw) (raws : List Raw) (plan : PlanFields) (refusal : BoxRefusal)
    → IsWholeHeader w raw.header plan → HeadersFail (next_walk plan.known 0) raws refusal
    → HeadersFail w (raw ∷ raws) refusal
fails_later w raw raws plan refusal has later = inr (plan, has.begins, inr (has.whole, later))

pub fails_after : (v : Version) (w : Walk) (bytes : List ℕ) (j : ℕ) (plan : PlanFields) (refusal : BoxRefusal)
    → j < scans_in (layout_of v) bytes → IsWholeHeader w (header_at (layout_of v) bytes j) plan
    → HeadersFail (next_walk plan.known 0) (raws_from v bytes (j + 1)) refusal
    → HeadersFail w (raws_from v bytes j) refusal
fails_after v w bytes j plan refusal below has later =
    subst (λ (raws : List Raw). HeadersFail w raws refusal) (sym (raws_first v bytes j below))
    (fails_later w (scan_raw v bytes j) (raws_from v bytes (j + 1)) plan refusal
    (subst (λ (header : List ℕ). IsWholeHeader w header plan) (raw_header v bytes j) has) later)

passes_more : (w : Walk) (raw : Raw) (raws : List Raw) (plan : PlanFields)
    (plans : List PlanFields) → IsWholeHeader w raw.header plan
    → HeadersPass (next_walk plan.known 0) raws plans → HeadersPass w (raw ∷ raws) (plan ∷ plans)
passes_more w raw raws plan plans has later = (has.begins, has.whole, later)

pub passes_after : (v : Version) (w : Walk) (bytes : List ℕ) (j : ℕ) (plan : PlanFields)
    (plans : List PlanFields) → j < scans_in (layout_of v) bytes → IsWholeHeader w (header_at (layout_of v) bytes j) plan
    → HeadersPass (next_walk plan.known 0) (raws_from v bytes (j + 1)) plans
    → HeadersPass w (raws_from v bytes j) (plan ∷ plans)
passes_after v w bytes j plan plans below has later =
    subst (λ (raws : List Raw). HeadersPass w raws (plan ∷ plans)) (sym (raws_first v bytes j below))
    (passes_more w (scan_raw v bytes j) (raws_from v bytes (j + 1)) plan plans
    (subst (λ (header : List ℕ). IsWholeHeader w header plan) (raw_header v bytes j) has) later)

-- ---- the first headers were read, up to that of a plan

pub record HaveRead (v : Version) (bytes : List ℕ) (j : ℕ) (plan : PlanFields) (plans : List PlanFields)
    : Type 0 where
  pub room : length plans ≡ 4
  pub known : AreKnown plan.known
  pub more : List PlanFields
  pub none : j ≤ 4 → more ≡ []
  pub pass : (later : List PlanFields)
      → HeadersPass (next_walk plan.known 0) (raws_from v bytes j) later
      → HeadersPass opening_walk (raws_as v bytes) (take j plans ++ (more ++ later))
  pub fail : (refusal : BoxRefusal)
      → HeadersFail (next_walk plan.known 0) (raws_from v bytes j) refusal
      → HeadersFail opening_walk (raws_as v bytes) refusal

pub one_read : (v : Version) (bytes : List ℕ) (plan : PlanFields) → 1 ≤ scans_in (layout_of v) bytes
    → IsWholeHeader opening_walk (header_at (layout_of v) bytes 0) plan → HaveRead v bytes 1 plan (replicate 4 plan)
one_read v bytes plan some has = record {
  room = refl;
  known = has.known;
  more = [];
  none = λ few. refl;
  pass = λ later passes. subst (λ (raws : List Raw). HeadersPass opening_walk raws (plan ∷ later))
      (sym (raws_all v bytes)) (passes_after v opening_walk bytes 0 plan later some has passes);
  fail = λ refusal fails. subst (λ (raws : List Raw). HeadersFail opening_walk raws refusal)
      (sym (raws_all v bytes)) (fails_after v opening_walk bytes 0 plan refusal some has fails);
}

-- the plans with one more
abbrev pub with_next : List PlanFields → ℕ → PlanFields → List PlanFields
with_next plans j next = if nat_lt j 4 then slice_set plans j next else plans

-- it is one of the first four, or not
record IsListed (plans more : List PlanFields) (j : ℕ) (next : PlanFields)
    (b : Bool) : Type 0 where
  room : length (if b then slice_set plans j next else plans) ≡ 4
  none : j + 1 ≤ 4 → (if b then more else more ++ next ∷ []) ≡ []
  all : (later : List PlanFields) → take j plans ++ (more ++ next ∷ later)
      ≡ take (j + 1) (if b then slice_set plans j next else plans)
      ++ ((if b then more else more ++ next ∷ []) ++ later)

listed : (plans more : List PlanFields) (j : ℕ) (next : PlanFields) (b : Bool)
    → nat_lt j 4 ≡ b → length plans ≡ 4 → (j ≤ 4 → more ≡ []) → IsListed plans more j next b
listed plans more j next true e room none =
    let below : j < 4 = ltb-true j 4 e in
    let nothing : more ≡ [] = none (omega (arith, below)) in
    let put = take_more_set plans j next (omega (arith, below, room)) in
    record {
      room = length-set plans j next ∙ room;
      none = λ few. nothing;
      all = λ later. rw (nothing, put) (sym (append_assoc (take j plans) (next ∷ []) later));
    }
listed plans more j next false e room none =
    let past : 4 ≤ j = ltb-false j 4 e in
    let here : take j plans ≡ plans = take_all j plans (omega (arith, past, room)) in
    let after : take (j + 1) plans ≡ plans = take_all (j + 1) plans (omega (arith, past, room)) in
    record {
      room = room;
      none = λ few. absurd (omega (arith, past, few));
      all = λ later. rw (here, after)
          (ap (λ (l : List PlanFields). plans ++ l) (sym (append_assoc more (next ∷ []) later)));
    }

pub more_read : (v : Version) (bytes : List ℕ) (j : ℕ) (plan : PlanFields) (plans : List PlanFields)
    (next : PlanFields) → j < scans_in (layout_of v) bytes → HaveRead v bytes j plan plans
    → IsWholeHeader (next_walk plan.known 0) (header_at (layout_of v) bytes j) next
    → HaveRead v bytes (j + 1) next (with_next plans j next)
more_read v bytes j plan plans next below read has =
    let is = listed plans read.more j next (nat_lt j 4) refl read.room read.none in
    record {
      room = is.room;
      known = has.known;
      more = if nat_lt j 4 then read.more else read.more ++ next ∷ [];
      none = is.none;
      pass = λ later passes. subst (λ (l : List PlanFields). HeadersPass opening_walk (raws_as v bytes) l)
          (is.all later) (read.pass (next ∷ later)
          (passes_after v (next_walk plan.known 0) bytes j next later below has passes));
      fail = λ refusal fails. read.fail refusal
          (fails_after v (next_walk plan.known 0) bytes j next refusal below has fails);
    }

pub all_read : (v : Version) (bytes : List ℕ) (j : ℕ) (plan : PlanFields) (plans : List PlanFields)
    → j ≡ scans_in (layout_of v) bytes → HaveRead v bytes j plan plans → HavePlans v bytes plans
all_read v bytes j plan plans end read =
    let past : scans_in (layout_of v) bytes ≤ j = omega (arith, end) in
    let none = raws_last v bytes j past in
    record {
      more = read.more;
      none = λ few. read.none (omega (arith, end, few));
      pass = subst (λ (k : ℕ). HeadersPass opening_walk (raws_as v bytes) (take k plans ++ read.more))
          end (subst (λ (l : List PlanFields). HeadersPass opening_walk (raws_as v bytes)
          (take j plans ++ l)) (append-nil read.more)
          (read.pass [] (subst (λ (raws : List Raw). HeadersPass (next_walk plan.known 0) raws [])
          (sym none) tt)));
    }
