use Rattle.std.proofs.Common.{rules, ◌≡◌, List, ◌∙◌, length, take, sym, ap, subst}
use Rattle.std.specs.Prelude.{Some, None}
use Rattle.handover.proofs.FieldBytes.{all_of}
use Rattle.jpeg_marker.specs.Plans.{PlanFields}
use Rattle.box_format.specs.Containers.{IsContainerIn}
use Rattle.box_format.specs.Parts.{BoxSeen}
use Rattle.box_format.specs.Versions.{layout_of, version_in}
use Rattle.box_format.specs.Fields.{scans_in, raws_as}
use Rattle.box_format.specs.Checks.{IsRefusedAs, IsRefusedBy, PassesAs, boxes_of, late_fault}
use Rattle.box_format.specs.Single.{IsOne}
use Rattle.box_format.specs.declared.version.Version.{Version}
use Rattle.box_format.specs.declared.refusal.BoxRefusal.TheVariants.{BoxSegments}
use Rattle.box_format.proofs.FilesRead.{few_scans, late_refused, none_refused, scans_passed, whole_of}
use Rattle.box_format.proofs.ScansOfBytes.{passed_is_container}
use Rattle.box_format.proofs.Singles.{one_read}
use Rattle.box_format.proofs.reading.read_container_of.Goals as goal

pub returns-then-scans_in-eq0-clause-refused : goal.returns-then-scans_in-eq0-clause-refused
returns-then-scans_in-eq0-clause-refused c = λ refusal is.
    let versions = c.args.versions.now in
    let bytes = c.args.bytes.now in
    let v = c.version_in-version.result in
    let same : BoxSegments ≡ refusal = cc in
    subst (IsRefusedBy versions bytes) same
    (subst (λ (w : Version). IsRefusedAs w versions bytes BoxSegments) c.version_in-version.ensures
    (none_refused versions v bytes (sym c.early_fault.ensures ∙ c.in_default.is)
    (sym c.scans_in.ensures ∙ c.if-scans_in-eq0.true)))

pub read_plans-requires-clause-whole : goal.read_plans-requires-clause-whole
read_plans-requires-clause-whole c =
    whole_of c.args.versions.now c.version_in-version.result c.args.bytes.now
    (sym c.early_fault.ensures ∙ c.in_default.is)

pub late_fault-requires-clause-whole : goal.late_fault-requires-clause-whole
late_fault-requires-clause-whole c =
    whole_of c.args.versions.now c.version_in-version.result c.args.bytes.now
    (sym c.early_fault.ensures ∙ c.in_default.is)

pub late_fault-requires-clause-four : goal.late_fault-requires-clause-four
late_fault-requires-clause-four c =
    ap (λ (l : List PlanFields). length l) c.as_slice.ensures.value ∙ c.in_ok-plans.ensures.four

pub returns-in-Some-late_fault-clause-refused : goal.returns-in-Some-late_fault-clause-refused
returns-in-Some-late_fault-clause-refused c = λ refusal is.
    let versions = c.args.versions.now in
    let bytes = c.args.bytes.now in
    let v = c.version_in-version.result in
    let found = c.in-Some-late_fault.refusal in
    let same : found ≡ refusal = cc in
    let late : late_fault v (take (scans_in (layout_of v) bytes) c.in_ok-plans.plans.items) bytes
    ≡ Some found =
    ap (λ (l : List PlanFields). late_fault v (take (scans_in (layout_of v) bytes) l) bytes)
    (sym c.as_slice.ensures.value) ∙ sym c.late_fault.ensures ∙ c.in-Some-late_fault.is in
    subst (IsRefusedBy versions bytes) same
    (subst (λ (w : Version). IsRefusedAs w versions bytes found) c.version_in-version.ensures
    (late_refused versions v bytes c.in_ok-plans.plans.items found
    (sym c.early_fault.ensures ∙ c.in_default.is) c.in_ok-plans.ensures.passed late))

pub of_plans-requires-clause-is : goal.of_plans-requires-clause-is
of_plans-requires-clause-is c =
    let versions = c.args.versions.now in
    let bytes = c.args.bytes.now in
    let v = c.version_in-version.result in
    let plans = c.in_ok-plans.plans.items in
    let early = sym c.early_fault.ensures ∙ c.in_default.is in
    let late : late_fault v (take (scans_in (layout_of v) bytes) plans) bytes ≡ None =
    ap (λ (l : List PlanFields). late_fault v (take (scans_in (layout_of v) bytes) l) bytes)
    (sym c.as_slice.ensures.value) ∙ sym c.late_fault.ensures ∙ c.in_default-late_fault.is in
    let passes = scans_passed versions v bytes plans early c.in_ok-plans.ensures.passed late in
    let is = passed_is_container versions (take (scans_in (layout_of (version_in bytes)) bytes) plans)
    bytes (all_of bytes (λ i. let h = c.type_inv.bytes i in search rules))
    (subst (λ (w : Version). PassesAs w versions (take (scans_in (layout_of w) bytes) plans) bytes)
    c.version_in-version.ensures passes) in
    subst (λ (w : Version). IsContainerIn w
    (boxes_of (take (scans_in (layout_of w) bytes) plans) (raws_as w bytes)) bytes)
    (sym c.version_in-version.ensures) is.0

pub of_plans-requires-clause-headers : goal.of_plans-requires-clause-headers
of_plans-requires-clause-headers c =
    let versions = c.args.versions.now in
    let bytes = c.args.bytes.now in
    let v = c.version_in-version.result in
    let plans = c.in_ok-plans.plans.items in
    let early = sym c.early_fault.ensures ∙ c.in_default.is in
    let late : late_fault v (take (scans_in (layout_of v) bytes) plans) bytes ≡ None =
    ap (λ (l : List PlanFields). late_fault v (take (scans_in (layout_of v) bytes) l) bytes)
    (sym c.as_slice.ensures.value) ∙ sym c.late_fault.ensures ∙ c.in_default-late_fault.is in
    (scans_passed versions v bytes plans early c.in_ok-plans.ensures.passed late).headers

pub of_plans-requires-clause-few : goal.of_plans-requires-clause-few
of_plans-requires-clause-few c =
    let versions = c.args.versions.now in
    let bytes = c.args.bytes.now in
    let v = c.version_in-version.result in
    let plans = c.in_ok-plans.plans.items in
    let late : late_fault v (take (scans_in (layout_of v) bytes) plans) bytes ≡ None =
    ap (λ (l : List PlanFields). late_fault v (take (scans_in (layout_of v) bytes) l) bytes)
    (sym c.as_slice.ensures.value) ∙ sym c.late_fault.ensures ∙ c.in_default-late_fault.is in
    few_scans versions v bytes (take (scans_in (layout_of v) bytes) plans) late

pub returns-clause-taken : goal.returns-clause-taken
returns-clause-taken c =
    let versions = c.args.versions.now in
    let bytes = c.args.bytes.now in
    let v = c.version_in-version.result in
    let plans = c.in_ok-plans.plans.items in
    let early = sym c.early_fault.ensures ∙ c.in_default.is in
    let late : late_fault v (take (scans_in (layout_of v) bytes) plans) bytes ≡ None =
    ap (λ (l : List PlanFields). late_fault v (take (scans_in (layout_of v) bytes) l) bytes)
    (sym c.as_slice.ensures.value) ∙ sym c.late_fault.ensures ∙ c.in_default-late_fault.is in
    let passes = scans_passed versions v bytes plans early c.in_ok-plans.ensures.passed late in
    let is = passed_is_container versions (take (scans_in (layout_of (version_in bytes)) bytes) plans)
    bytes (all_of bytes (λ i. let h = c.type_inv.bytes i in search rules))
    (subst (λ (w : Version). PassesAs w versions (take (scans_in (layout_of w) bytes) plans) bytes)
    c.version_in-version.ensures passes) in
    let here =
    subst (λ (w : Version). IsContainerIn w
    (boxes_of (take (scans_in (layout_of w) bytes) plans) (raws_as w bytes)) bytes)
    (sym c.version_in-version.ensures) is.0 in (
      v,
      subst (λ (scans : List BoxSeen). IsContainerIn v scans bytes) (sym c.of_plans.ensures) here,
    )

pub returns-clause-version : goal.returns-clause-version
returns-clause-version c =
    let versions = c.args.versions.now in
    let bytes = c.args.bytes.now in
    let v = c.version_in-version.result in
    let plans = c.in_ok-plans.plans.items in
    let early = sym c.early_fault.ensures ∙ c.in_default.is in
    let late : late_fault v (take (scans_in (layout_of v) bytes) plans) bytes ≡ None =
    ap (λ (l : List PlanFields). late_fault v (take (scans_in (layout_of v) bytes) l) bytes)
    (sym c.as_slice.ensures.value) ∙ sym c.late_fault.ensures ∙ c.in_default-late_fault.is in
    let passes = scans_passed versions v bytes plans early c.in_ok-plans.ensures.passed late in
    (passed_is_container versions (take (scans_in (layout_of (version_in bytes)) bytes) plans)
    bytes (all_of bytes (λ i. let h = c.type_inv.bytes i in search rules))
    (subst (λ (w : Version). PassesAs w versions (take (scans_in (layout_of w) bytes) plans) bytes)
    c.version_in-version.ensures passes)).1

pub returns-clause-one : goal.returns-clause-one
returns-clause-one c =
    let versions = c.args.versions.now in
    let bytes = c.args.bytes.now in
    let v = c.version_in-version.result in
    let plans = c.in_ok-plans.plans.items in
    let early = sym c.early_fault.ensures ∙ c.in_default.is in
    let late : late_fault v (take (scans_in (layout_of v) bytes) plans) bytes ≡ None =
    ap (λ (l : List PlanFields). late_fault v (take (scans_in (layout_of v) bytes) l) bytes)
    (sym c.as_slice.ensures.value) ∙ sym c.late_fault.ensures ∙ c.in_default-late_fault.is in
    let passes = scans_passed versions v bytes plans early c.in_ok-plans.ensures.passed late in
    let is = passed_is_container versions (take (scans_in (layout_of (version_in bytes)) bytes) plans)
    bytes (all_of bytes (λ i. let h = c.type_inv.bytes i in search rules))
    (subst (λ (w : Version). PassesAs w versions (take (scans_in (layout_of w) bytes) plans) bytes)
    c.version_in-version.ensures passes) in
    let scans = boxes_of (take (scans_in (layout_of v) bytes) plans) (raws_as v bytes) in
    let here : IsContainerIn (version_in bytes) scans bytes =
    subst (λ (w : Version). IsContainerIn (version_in bytes)
    (boxes_of (take (scans_in (layout_of w) bytes) plans) (raws_as w bytes)) bytes)
    (sym c.version_in-version.ensures) is.0 in
    λ all. subst (λ (l : List BoxSeen). IsOne versions l bytes) (sym c.of_plans.ensures)
    (one_read versions scans bytes all is.1 here)

pub of_plans-requires-clause-whole : goal.of_plans-requires-clause-whole
of_plans-requires-clause-whole c =
    whole_of c.args.versions.now c.version_in-version.result c.args.bytes.now
    (sym c.early_fault.ensures ∙ c.in_default.is)
