-- What the checks say of a container that is read.
use Rattle.std.proofs.Common.{◌≡◌, ◌<◌, ◌≤◌, Bool, true, false, if◌then◌else◌, ℕ, List, [], ◌++◌, take, map, sym, ap, ◌∙◌, arith, subst, inl, inr}
use Rattle.std.specs.Prelude.{◌⊎◌, Some, None}
use Rattle.std.proofs.lemmas.List.{append-nil}
use Rattle.std.proofs.lemmas.Bool.{cases_lt}
use Rattle.std.specs.List.{range_with_len}
use Rattle.jpeg_marker.specs.Plans.{PlanFields}
use Rattle.jpeg_marker.specs.FirstWalks.{opening_walk}
use Rattle.box_format.specs.Raws.{Raw}
use Rattle.box_format.specs.Versions.{layout_of, fewest_scans, most_scans}
use Rattle.box_format.specs.Fields.{scans_in, scan_raw, raws_as}
use Rattle.box_format.specs.Checks.{HeadersPass, PassesAs, IsRefusedAs, early_fault, late_fault}
use Rattle.box_format.specs.Whole.{IsUncut, HavePlans}
use Rattle.box_format.specs.declared.version.Version.{Version}
use Rattle.box_format.specs.declared.refusal.BoxRefusal.{BoxRefusal}
use Rattle.box_format.specs.declared.refusal.BoxRefusal.TheVariants.{BoxSegments}
use Rattle.box_format.proofs.Layouts.{laid_out}
use Rattle.box_format.proofs.ScansFaults.{late_outside}
use Rattle.box_format.proofs.ScansPlaced.{early_of}

module _ (versions : List Version) (v : Version) (bytes : List ℕ) where
  abbrev early : Type 0
  early = early_fault versions (layout_of v) bytes ≡ None

  abbrev count : ℕ
  count = scans_in (layout_of v) bytes

  pub whole_of : early → IsUncut (layout_of v) bytes
  whole_of e =
      let is = early_of (layout_of v) versions bytes (laid_out v) e in
      record { fields = is.fields; ends = is.ends }

  low : (b : Bool) → 1 ≤ (if b then 2 else 1)
  low true = omega arith
  low false = omega arith

  high : (b : Bool) → (if b then 4 else 1) ≤ 4
  high true = omega arith
  high false = omega arith

  -- there is no scan
  pub none_refused : early → count ≡ 0 → IsRefusedAs v versions bytes BoxSegments
  none_refused e none =
      let raws : raws_as v bytes ≡ [] = ap (λ (k : ℕ). map (scan_raw v bytes) (range_with_len 0 k)) none in
      let some = low (layout_of v).several in
      let few : (count < fewest_scans (layout_of v)) ⊎ (most_scans (layout_of v) < count) =
      inl (omega (arith, none, some)) in
      inr (
        e,
        inr (
          [],
          subst (λ (l : List Raw). HeadersPass opening_walk l []) (sym raws) tt,
          late_outside v [] bytes few,
        ),
      )

  many_fail : (plans : List PlanFields) → 5 ≤ count → late_fault v plans bytes ≡ Some BoxSegments
  many_fail plans many =
      let few = high (layout_of v).several in
      late_outside v plans bytes (inr (omega (arith, many, few)))

  -- a check after the headers fails
  late_same : (plans more : List PlanFields) → (count ≤ 4 → more ≡ [])
      → late_fault v (plans ++ more) bytes ≡ late_fault v plans bytes
  late_same plans more none = elim (cases_lt count 5) [
    | inl few ↦ ap (λ (l : List PlanFields). late_fault v l bytes)
        (ap (λ (l : List PlanFields). plans ++ l) (none (omega (arith, few))) ∙ append-nil plans)
    | inr many ↦ many_fail (plans ++ more) many ∙ sym (many_fail plans many)
  ]

  pub late_refused : (plans : List PlanFields) (refusal : BoxRefusal) → early
      → HavePlans v bytes plans → late_fault v (take count plans) bytes ≡ Some refusal
      → IsRefusedAs v versions bytes refusal
  late_refused plans refusal e have late =
      inr (
        e,
        inr (
          take count plans ++ have.more,
          have.pass,
          late_same (take count plans) have.more have.none ∙ late,
        ),
      )

  -- or all pass
  pub few_scans : (plans : List PlanFields) → late_fault v plans bytes ≡ None → count ≤ 4
  few_scans plans late = elim (cases_lt count 5) [
    | inl few ↦ omega (arith, few)
    | inr many ↦ absurd (let e = sym (many_fail plans many) ∙ late in cc)
  ]

  pub scans_passed : (plans : List PlanFields) → early → HavePlans v bytes plans
      → late_fault v (take count plans) bytes ≡ None
      → PassesAs v versions (take count plans) bytes
  scans_passed plans e have late =
      let kept = take count plans in
      let few = few_scans kept late in
      record {
        early = e;
        headers = subst (λ (l : List PlanFields). HeadersPass opening_walk (raws_as v bytes) l)
            (ap (λ (l : List PlanFields). kept ++ l) (have.none few) ∙ append-nil kept) have.pass;
        late = late;
      }
