-- A file's container with the places found is the file's in the fifth version.
use Rattle.std.proofs.Common.{◌≡◌, ℕ, ◌+◌, true, false, List, length, map, Option, Some, None, refl, sym, ap, subst, ◌∙◌, arith}
use Rattle.std.specs.Prelude.{is_some, IfSome, slice_index}
use Rattle.std.specs.List.{range_with_len}
use Rattle.jpeg_marker.specs.Plans.{PlanFields}
use Rattle.box_format.specs.Parts.{BoxParts, ArePlaces, with_places}
use Rattle.box_format.specs.Single.{IsBox, box_bytes}
use Rattle.box_format.specs.Versions.{layout_of}
use Rattle.box_format.specs.declared.version.Version.TheVariants.{Fifth}
use Rattle.box_format.proofs.SingleBytes.{no_chunk}
use Rattle.box_format.proofs.OneCuts.{parts_same}
use Rattle.box_format.proofs.Layouts.{most_more}
use Rattle.container_spec.specs.Meanings.{Meaning}
use Rattle.container_spec.proofs.JoinedSegments.{joined}
use Rattle.container_spec.specs.Portions.{meaning_of}
use Rattle.container_spec.proofs.ScanContainers.{IsContainerOfOne}
use Rattle.container_spec.specs.Indexed.{indexed, places_found, outputs_of}
use Rattle.container_spec.specs.MeaningLaws.{IndexedIsContainer, IndexedStays}
use Rattle.container_spec.proofs.FilesAlone.{as_one}
use Rattle.container_spec.proofs.FilesOfContainers.{container_is, indexed_is, some, without}
use Rattle.container_spec.proofs.Numbered.{mapped_is}
use Rattle.container_spec.proofs.PlacesFound.{found_is}
use Rattle.container_spec.proofs.PlacesOfContainers.{place_is}
use Rattle.container_spec.proofs.ReachedSegments.{whole}
use Rattle.container_spec.proofs.PortionsMeant.{is_restored}

-- ---- a file's container

pub indexed_is_container : IndexedIsContainer
indexed_is_container plan b bytes file each chunked of e =
    let same : b ≡ whole b = without b (no_chunk plan b chunked of.box) in
    let box : IsBox plan (whole b) = subst (IsBox plan) same of.box in
    let so = is_restored plan (whole b) file refl (sym e ∙ ap (meaning_of plan) same) in
    let few = of.box.few in
    let more = most_more b.version in (
      length b.handovers,
      some plan b file box so,
      omega (arith, few, more),
      as_one b.version (length b.handovers) bytes file of.one
          (container_is plan b file box so chunked bytes (of.text ∙ ap box_bytes same)),
      as_one Fifth (length b.handovers) (box_bytes (indexed plan b)) file refl
          (subst (λ (p : BoxParts). IsContainerOfOne Fifth (length b.handovers)
          (box_bytes (indexed plan p)) file) (sym same) (indexed_is plan b file box so)),
    )

-- ---- a container that keeps its places

-- with its own places
same_indexed : (b : BoxParts) (found places : List ℕ) → found ≡ places → b.version ≡ Fifth
    → b.places ≡ Some places → with_places b found ≡ b
same_indexed b found places e version is =
    parts_same Fifth b.chunk (Some found) b.pads b.header b.trailer b.handovers b.streams b
    (sym version) refl (ap (λ (l : List ℕ). Some l) e ∙ sym is) refl refl refl refl refl

-- places that are kept are found
stays_with : (plan : PlanFields) (b : BoxParts) (kept : Option (List ℕ)) → IsBox plan b
    → b.places ≡ kept → is_some kept ≡ true → b.version ≡ Fifth
    → (joined (outputs_of plan b)).fault ≡ None → indexed plan b ≡ b
stays_with plan b None box is there fifth none = cc
stays_with plan b (Some places) box is there fifth none =
    let count = length b.handovers in
    let are = subst (λ p. IfSome p (ArePlaces (length b.header) count)) is box.places in
    let long = are.count in
    let all = mapped_is (slice_index places) places 0 0
    (λ k within. let z : k ≡ 0 + k = omega arith in ap (slice_index places) z)
    ∙ ap (λ n. map (slice_index places) (range_with_len 0 n)) long in
    let found = found_is plan b (slice_index places) none
    (λ k upto.
    let z : k ≡ 0 + k = omega arith in
    sym (place_is plan b places (length b.header) count k is are upto none)
    ∙ ap (slice_index places) z) in
    same_indexed b (places_found plan b) places (found ∙ sym all) fifth is

pub indexed_stays : IndexedStays
indexed_stays plan b box fifth restored =
    let chunked : (layout_of b.version).chunked ≡ false = ap (λ v. (layout_of v).chunked) fifth in
    let placed : is_some b.places ≡ true =
    box.placed ∙ ap (λ v. (layout_of v).placed) fifth in
    let m : Meaning = meaning_of plan b in
    let file = ap (λ v. let n : Meaning = record { bytes = m.bytes; verdict = v } in n) (sym restored) in
    let so = is_restored plan b m.bytes (no_chunk plan b chunked box) file in
    stays_with plan b b.places box refl placed fifth so.none
