-- A container has one spelling.
use Rattle.std.proofs.Common.{◌≡◌, ℕ, List, sym, ap, ◌∙◌, subst, inl, inr}
use Rattle.std.specs.Prelude.{◌⊎◌, Some}
use Rattle.jpeg_marker.specs.Plans.{PlanFields}
use Rattle.jpeg_marker.specs.FirstWalks.{opening_walk}
use Rattle.box_format.specs.Versions.{version_in, IsRead, decoded}
use Rattle.box_format.specs.Parts.{BoxSeen}
use Rattle.box_format.specs.Containers.{all_plans, IsContainerIn}
use Rattle.box_format.specs.Fields.{raws_of}
use Rattle.box_format.specs.Checks.{PassesChecks, HeadersPass, HeadersFail, late_fault, boxes_of}
use Rattle.box_format.specs.Laws.{OneListOfScans, OneRefusal, NeverBoth}
use Rattle.box_format.specs.declared.version.Version.{Version}
use Rattle.box_format.specs.declared.refusal.BoxRefusal.{BoxRefusal}
use Rattle.box_format.proofs.OneHeaders.{same_plans, one_fail, pass_apart}
use Rattle.box_format.proofs.Layouts.{all_read}
use Rattle.box_format.proofs.ScansPassed.{container_passes}

pub checked : (versions : List Version) (v : Version) (scans : List BoxSeen) (bytes : List ℕ)
    → IsRead versions v → IsContainerIn v scans bytes
    → PassesChecks versions (all_plans scans) bytes
    × (boxes_of (all_plans scans) (raws_of bytes) ≡ scans)
checked versions v scans bytes known is =
    let P : List ℕ → Type 0 = λ l.
    PassesChecks versions (all_plans scans) l × (boxes_of (all_plans scans) (raws_of l) ≡ scans) in
    subst P (sym is.text) (container_passes versions v scans known is.are)

pub one_list_of_scans : OneListOfScans
one_list_of_scans scans others bytes p q =
    let x = checked decoded p.0 scans bytes (all_read p.0) p.1 in
    let y = checked decoded q.0 others bytes (all_read q.0) q.1 in
    let plans = same_plans opening_walk (raws_of bytes) (all_plans scans) (all_plans others)
    x.0.headers y.0.headers in
    sym x.1 ∙ ap (λ (l : List PlanFields). boxes_of l (raws_of bytes)) plans ∙ y.1

pub some_is_one : {A : Type 0} (x y : A) → Some x ≡ Some y → x ≡ y
some_is_one x y e = cc

-- a header that is refused, or a check after them that fails
abbrev FailsLate : List ℕ → BoxRefusal → Type 0
FailsLate bytes refusal =
    HeadersFail opening_walk (raws_of bytes) refusal
    ⊎ ((plans : List PlanFields) × HeadersPass opening_walk (raws_of bytes) plans
    × (late_fault (version_in bytes) plans bytes ≡ Some refusal))

one_late : (bytes : List ℕ) (refusal other : BoxRefusal) → FailsLate bytes refusal
    → FailsLate bytes other → refusal ≡ other
one_late bytes refusal other (inl a) (inl b) = one_fail opening_walk (raws_of bytes) refusal other a b
one_late bytes refusal other (inl a) (inr b) =
    absurd (pass_apart opening_walk (raws_of bytes) b.0 refusal b.1 a)
one_late bytes refusal other (inr a) (inl b) =
    absurd (pass_apart opening_walk (raws_of bytes) a.0 other a.1 b)
one_late bytes refusal other (inr a) (inr b) =
    let same = same_plans opening_walk (raws_of bytes) a.0 b.0 a.1 b.1 in
    some_is_one refusal other
    (sym a.2 ∙ ap (λ (plans : List PlanFields). late_fault (version_in bytes) plans bytes) same
    ∙ b.2)

pub one_refusal : OneRefusal
one_refusal versions bytes refusal other (inl p) (inl q) = some_is_one refusal other (sym p ∙ q)
one_refusal versions bytes refusal other (inl p) (inr q) = let e = q.0 in cc
one_refusal versions bytes refusal other (inr p) (inl q) = let e = p.0 in cc
one_refusal versions bytes refusal other (inr p) (inr q) = one_late bytes refusal other p.1 q.1

late_apart : (versions : List Version) (bytes : List ℕ) (plans : List PlanFields)
    (refusal : BoxRefusal) → PassesChecks versions plans bytes → FailsLate bytes refusal → ⊥
late_apart versions bytes plans refusal passes (inl a) =
    pass_apart opening_walk (raws_of bytes) plans refusal passes.headers a
late_apart versions bytes plans refusal passes (inr a) =
    let same = same_plans opening_walk (raws_of bytes) plans a.0 passes.headers a.1 in
    let e = ap (λ (plans : List PlanFields). late_fault (version_in bytes) plans bytes) same in
    let f = a.2 in
    let g = passes.late in
    cc

pub never_both : NeverBoth
never_both versions v scans bytes refusal known is (inl p) =
    let e = (checked versions v scans bytes known is).0.early in
    cc
never_both versions v scans bytes refusal known is (inr p) =
    late_apart versions bytes (all_plans scans) refusal (checked versions v scans bytes known is).0
    p.1
