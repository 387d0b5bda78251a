-- A container of the fifth version keeps its places.
use Rattle.std.proofs.Common.{◌≡◌, ℕ, ◌+◌, true, false, List, length, map, Option, Some, None, refl, ap, ◌∙◌}
use Rattle.std.specs.Prelude.{IfSome, is_some}
use Rattle.std.proofs.lemmas.List.{length-map}
use Rattle.std.proofs.lemmas.List.FromFn.{length-map-range_with_len}
use Rattle.jpeg_marker.specs.Plans.{PlanFields}
use Rattle.box_format.specs.Parts.{BoxParts, ArePlaces}
use Rattle.box_format.specs.Single.{IsBox}
use Rattle.box_format.specs.Versions.{layout_of}
use Rattle.box_format.specs.declared.chunk.Chunk.{Chunk}
use Rattle.box_format.specs.declared.version.Version.{Version}
use Rattle.box_format.specs.declared.version.Version.TheVariants.{Fifth}
use Rattle.container_spec.specs.Segments.{Output, segment_output}
use Rattle.container_spec.specs.Indexed.{outputs_of}
use Rattle.container_spec.specs.Meanings.{segment_in}
use Rattle.container_spec.specs.RangeMeanings.{places_of}

-- places that are kept
pub record AreKeptPlaces (b : BoxParts) : Type 0 where
  pub some : b.places ≡ Some (places_of b.places)
  pub are : ArePlaces (length b.header) (length b.handovers) (places_of b.places)

same_places : (places : Option (List ℕ)) → is_some places ≡ true → places ≡ Some (places_of places)
same_places None some = absurd cc
same_places (Some places) some = refl

those_places : (P : List ℕ → Type 0) (places : Option (List ℕ)) → is_some places ≡ true
    → IfSome places P → P (places_of places)
those_places P None some all = absurd cc
those_places P (Some places) some all = all

none_if : (chunk : Option Chunk) → is_some chunk ≡ false → chunk ≡ None
none_if None none = refl
none_if (Some c) none = absurd cc

-- as many segments as handovers
pub segments_long : (plan : PlanFields) (b : BoxParts)
    → length (map (λ (output : Output). output.0) (outputs_of plan b)) ≡ length b.handovers
segments_long plan b =
    length-map (outputs_of plan b) (λ (output : Output). output.0)
    ∙ length-map-range_with_len (λ i. segment_output (segment_in plan b i)) 0 (length b.handovers)

-- of the fifth version
module _ (plan : PlanFields) (b : BoxParts) (box : IsBox plan b) (fifth : b.version ≡ Fifth) where
  pub no_chunk : b.chunk ≡ None
  no_chunk = none_if b.chunk (box.chunked ∙ ap (λ (v : Version). (layout_of v).chunked) fifth)

  pub kept_places : AreKeptPlaces b
  kept_places =
      let some = box.placed ∙ ap (λ (v : Version). (layout_of v).placed) fifth in
      let P = ArePlaces (length b.header) (length b.handovers) in record {
        some = same_places b.places some;
        are = those_places P b.places some box.places;
      }

  -- one place for each segment, and one for the scan's end
  pub one_place_more : length (places_of b.places) ≡ length b.handovers + 1
  one_place_more = kept_places.are.count
