-- Containers of one scan.
use Rattle.std.proofs.Common.{◌≡◌, ◌≤◌, ℕ, Bool, true, false, not, ◌&&◌, List, [], ◌∷◌, length, sum, refl, sym, ap, ◌∙◌, arith, subst, inl, inr}
use Rattle.std.specs.Prelude.{◌⊎◌, ◌==◌, slice_index}
use Rattle.std.proofs.lemmas.Bool.{eqb-true, false≢true, or_cases}
use Rattle.jpeg_marker.specs.Plans.{PlanFields}
use Rattle.jpeg_marker.specs.FirstWalks.{only_walk, opening_walk}
use Rattle.jpeg_marker.specs.HeaderPlan.{Begins}
use Rattle.jpeg_marker.specs.KnownBefore.{AreKnown}
use Rattle.jpeg_marker.specs.Walks.{Walk}
use Rattle.jpeg_marker.proofs.OneScans.{one_is_several, one_is_last, several_is_one}
use Rattle.scan_spec.specs.FileParts.{is_last}
use Rattle.box_format.specs.Versions.{layout_of, version_of, version_in, fewest_scans, most_scans, is_version, are_single, IsRead}
use Rattle.box_format.specs.Parts.{BoxParts, BoxSeen, IsBoxIn}
use Rattle.box_format.specs.Containers.{container_bytes, IsContainerIn}
use Rattle.box_format.specs.Checks.{IsRefusedBy}
use Rattle.box_format.specs.Single.{IsBox, IsBoxOf, IsOne}
use Rattle.box_format.specs.SingleLaws.{OneIsContainer, OneOrSeveral}
use Rattle.box_format.specs.declared.version.Version.{Version}
use Rattle.box_format.specs.declared.version.Version.TheVariants.{First, Second, Third, Fourth, Fifth}
use Rattle.box_format.specs.declared.refusal.BoxRefusal.{BoxRefusal}
use Rattle.box_format.proofs.Lists.{sum_first}
use Rattle.box_format.proofs.Layouts.{same_version}
use Rattle.box_format.proofs.Spelling.{one_list_of_scans, never_both}

-- ---- the walk of a file of one scan

-- the parts are those of any walk that the header is read by
read_by : (w o : Walk) (plan : PlanFields) (b : BoxParts) → IsBoxIn w plan b → AreKnown o.known
    → Begins o b.header plan → IsBoxIn o plan b
read_by w o plan b is known header = record {
  known = known;
  header = header;
  whole = is.whole;
  few = is.few;
  cut = is.cut;
  chunked = is.chunked;
  chunk = is.chunk;
  placed = is.placed;
  places = is.places;
  pads = is.pads;
  streams = is.streams;
  each = is.each;
  starts = is.starts;
  header_fits = is.header_fits;
  trailer_fits = is.trailer_fits;
  list_fits = is.list_fits;
  streams_fit = is.streams_fit;
  list_bytes_are = is.list_bytes_are;
  header_bytes = is.header_bytes;
  trailer_bytes = is.trailer_bytes;
  stream_bytes = is.stream_bytes;
}

to_opening : (plan : PlanFields) (b : BoxParts) → IsBox plan b → IsBoxIn opening_walk plan b
to_opening plan b is =
    read_by only_walk opening_walk plan b is is.known (one_is_several b.header plan is.header)

to_only : (plan : PlanFields) (b : BoxParts) → IsBoxIn opening_walk plan b
    → is_last plan ≡ true → IsBox plan b
to_only plan b is last =
    read_by opening_walk only_walk plan b is is.known
    (several_is_one b.header plan is.header_bytes is.header last)

-- ---- the byte of the version

byte_at : (v : Version) (scans : List BoxParts)
    → slice_index (container_bytes v scans) 4 ≡ (layout_of v).byte
unfolding container_bytes
byte_at v scans = refl

pub version_said : (v : Version) (scans : List BoxParts) → version_in (container_bytes v scans) ≡ v
version_said v scans = ap version_of (byte_at v scans) ∙ same_version v

pub version_is_in : (v : Version) (scans : List BoxSeen) (bytes : List ℕ)
    → IsContainerIn v scans bytes → version_in bytes ≡ v
version_is_in v scans bytes is = ap version_in is.text ∙ version_said v _

-- ---- one scan

one_sum : (n : ℕ) → sum (n ∷ []) ≡ n
one_sum n = let e = sum_first n [] in omega (arith, e)

pub fewest_one : (v : Version) → (layout_of v).several ≡ false
    → (fewest_scans (layout_of v) ≤ 1) × (1 ≤ most_scans (layout_of v))
    × (most_scans (layout_of v) ≤ 1)
fewest_one First e = (omega arith, omega arith, omega arith)
fewest_one Second e = (omega arith, omega arith, omega arith)
fewest_one Third e = (omega arith, omega arith, omega arith)
fewest_one Fourth e = cc
fewest_one Fifth e = (omega arith, omega arith, omega arith)

pub one_is_container : OneIsContainer
one_is_container s bytes is =
    let b = s.parts in
    let count = one_sum (length b.handovers) in
    let few = is.box.few in
    let room = fewest_one b.version is.one in
    record {
      are = record {
        enough = room.0;
        most = room.1;
        each = (
          to_opening s.plan b is.box,
          one_is_last b.header s.plan is.box.header_bytes is.box.header,
        );
        versions = (refl, tt);
        few = omega (arith, count, few);
      };
      text = is.text;
    }

-- ---- and back

pub of_one : (v : Version) (s : BoxSeen) (bytes : List ℕ) → (layout_of v).several ≡ false
    → IsContainerIn v (s ∷ []) bytes → IsBoxOf s.plan s.parts bytes × (s.parts.version ≡ v)
of_one v s bytes one is =
    let said : s.parts.version ≡ v = is.are.versions.0 in (
      record {
        box = to_only s.plan s.parts is.are.each.0 is.are.each.1;
        one = ap (λ (w : Version). (layout_of w).several) said ∙ one;
        text = is.text ∙ ap (λ (w : Version). container_bytes w (s.parts ∷ [])) (sym said);
      },
      said,
    )

-- what a container of a version of one scan is
abbrev Alone : Version → List BoxSeen → List ℕ → Type 0
Alone v scans bytes =
    (s : BoxSeen) × (scans ≡ s ∷ []) × IsBoxOf s.plan s.parts bytes × (s.parts.version ≡ v)

pub alone : (v : Version) (scans : List BoxSeen) (bytes : List ℕ)
    → (layout_of v).several ≡ false → IsContainerIn v scans bytes → Alone v scans bytes
alone v [] bytes one is = absurd is.are.each
alone v (s ∷ []) bytes one is =
    let back = of_one v s bytes one is in (s, refl, back.0, back.1)
alone v (s ∷ t ∷ scans) bytes one is =
    let most = is.are.most in
    let few = (fewest_one v one).2 in
    absurd (omega (arith, most, few))

first_case : (v : Version) (scans : List BoxSeen) (bytes : List ℕ) → Alone v scans bytes
    → ((s : BoxSeen) × (scans ≡ s ∷ []) × IsBoxOf s.plan s.parts bytes)
    ⊎ IsContainerIn Fourth scans bytes
first_case v scans bytes is = inl (is.0, is.1, is.2)

either : (v : Version) (scans : List BoxSeen) (bytes : List ℕ) → IsContainerIn v scans bytes
    → ((s : BoxSeen) × (scans ≡ s ∷ []) × IsBoxOf s.plan s.parts bytes)
    ⊎ IsContainerIn Fourth scans bytes
either First scans bytes is = first_case First scans bytes (alone First scans bytes refl is)
either Second scans bytes is = first_case Second scans bytes (alone Second scans bytes refl is)
either Third scans bytes is = first_case Third scans bytes (alone Third scans bytes refl is)
either Fourth scans bytes is = inr is
either Fifth scans bytes is = first_case Fifth scans bytes (alone Fifth scans bytes refl is)

pub one_or_several : OneOrSeveral
one_or_several scans bytes is = either is.0 scans bytes is.1

-- ---- who reads versions of one scan

single_version : (versions : List Version) (n : ℕ) → are_single versions ≡ true
    → is_version versions n ≡ true → (layout_of (version_of n)).several ≡ false
single_version [] n all said = absurd (false≢true said)
single_version (v ∷ versions) n all said =
    let parts = both (layout_of v).several (are_single versions) all in
    elim (or_cases ((layout_of v).byte == n) (is_version versions n) said) [
      | inl here ↦ let same = eqb-true (layout_of v).byte n here in
          ap (λ (w : Version). (layout_of w).several)
          (sym (ap version_of same) ∙ same_version v) ∙ parts.0
      | inr later ↦ single_version versions n parts.1 later
    ] where
      both : (a b : Bool) → (not a && b) ≡ true → (a ≡ false) × (b ≡ true)
      both false b e = (refl, e)
      both true b e = cc

pub one_read : (versions : List Version) (scans : List BoxSeen) (bytes : List ℕ)
    → are_single versions ≡ true → IsRead versions (version_in bytes)
    → IsContainerIn (version_in bytes) scans bytes → IsOne versions scans bytes
one_read versions scans bytes all read is =
    let v = version_in bytes in
    let single = ap (λ (w : Version). (layout_of w).several) (sym (same_version v))
    ∙ single_version versions (layout_of v).byte all read in
    let a = alone v scans bytes single is in
    (a.0, a.1, a.2, subst (IsRead versions) (sym a.3) read)

-- ---- one spelling

first_is : (s t : BoxSeen) → s ∷ [] ≡ t ∷ [] → (s.plan ≡ t.plan) × (s.parts ≡ t.parts)
first_is s t e =
    let same : s ≡ t = cc in
    (ap (λ (x : BoxSeen). x.plan) same, ap (λ (x : BoxSeen). x.parts) same)

-- the plan and the parts as a scan
abbrev seen_as : PlanFields → BoxParts → BoxSeen
seen_as plan b = record { plan = plan; parts = b }

pub one_box : (plan other : PlanFields) (a b : BoxParts) (bytes : List ℕ)
    → IsBoxOf plan a bytes → IsBoxOf other b bytes → (plan ≡ other) × (a ≡ b)
one_box plan other a b bytes p q =
    first_is (seen_as plan a) (seen_as other b)
    (one_list_of_scans (seen_as plan a ∷ []) (seen_as other b ∷ []) bytes
    (a.version, one_is_container (seen_as plan a) bytes p)
    (b.version, one_is_container (seen_as other b) bytes q))

pub box_or_refused : (versions : List Version) (bytes : List ℕ) (plan : PlanFields) (b : BoxParts)
    (refusal : BoxRefusal) → IsRead versions b.version → IsBoxOf plan b bytes
    → IsRefusedBy versions bytes refusal → ⊥
box_or_refused versions bytes plan b refusal read is =
    never_both versions b.version (seen_as plan b ∷ []) bytes refusal read
    (one_is_container (seen_as plan b) bytes is)
