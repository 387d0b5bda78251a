-- The segments of a file's container are the file.
use Rattle.std.proofs.Common.{◌≡◌, ℕ, ◌+◌, ◌<◌, Bool, true, List, take, Ok, refl, sym, ap, ap₂, subst, ◌∙◌, arith, append_assoc, None}
use Rattle.std.proofs.lemmas.List.{take_all}
use Rattle.jpeg_marker.specs.Walks.{Walk}
use Rattle.scan_spec.specs.Pads.{PadBits, bit_for, is_spelled}
use Rattle.scan_spec.specs.Scans.{scan_bytes, pad_at}
use Rattle.scan_spec.specs.Slots.{Shape, shape_of}
use Rattle.scan_spec.specs.Spots.{Spot, first_spot, mcus_put, bytes_done, spot_at}
use Rattle.scan_spec.proofs.DoneBytes.{done_in_parts}
use Rattle.handover.specs.declared.pads.PadSum.{PadSum}
use Rattle.cut_spec.proofs.Slices.{joined_scan}
use Rattle.box_format.specs.Parts.{BoxParts}
use Rattle.box_format.specs.Versions.{layout_of}
use Rattle.box_format.specs.declared.version.Version.{Version}
use Rattle.container_spec.specs.SegmentLaws.{mcus_sum}
use Rattle.container_spec.specs.Files.{parts_of_file, told_pads}
use Rattle.container_spec.proofs.ScanContainers.{IsScanContainer}
use Rattle.container_spec.specs.Indexed.{outputs_of}
use Rattle.container_spec.proofs.CutsOfPlans.{cut_within}
use Rattle.container_spec.proofs.FileParts.{segments, cut, cuts, small, suits, file_is, file_places}
use Rattle.container_spec.proofs.JoinedSegments.{Joined, good_join, joined}
use Rattle.container_spec.proofs.PaddedMcus.{scan_sum}
use Rattle.container_spec.proofs.PaddedSlices.{sum_of_all}
use Rattle.container_spec.proofs.PlacesOfFiles.{kept_if, slice_is_kept}
use Rattle.container_spec.proofs.RestoredMeanings.{IsRestored}
use Rattle.container_spec.proofs.RestoredRows as rows

module _ {w : Walk} (version : Version) (most : ℕ) (made file : List ℕ) (some : 0 < most)
    (is : IsScanContainer w version most made file) where
  abbrev shape : Shape
  shape = shape_of is.plan

  abbrev told : PadBits
  told = told_pads is.plan is.mcus is.pads

  abbrev pads : ℕ → Bool
  pads = bit_for told

  abbrev count : ℕ
  count = segments version most made file some is

  abbrev d : ℕ → ℕ
  d i = cut version most made file some is i

  abbrev header : List ℕ
  header = take is.plan.header_length file

  abbrev file_box : BoxParts
  file_box = parts_of_file version is.plan is.mcus is.pads header is.trailer most

  text : scan_bytes shape pads is.mcus ≡ Ok is.is.scan
  text =
      rows.text version is.plan is.mcus is.pads header is.trailer is.is.scan None file_box.places
      count (suits version most made file some is) is.is.is

  -- its segments, one after another
  all_joined : joined (outputs_of is.plan file_box)
      ≡ good_join is.is.scan (mcus_sum shape told first_spot is.mcus)
  all_joined =
      let cuts = cuts version most made file some is in
      let suits = suits version most made file some is in
      let small = small version most made file some is in
      rows.rows_joined version is.plan is.mcus is.pads header is.trailer is.is.scan None
      file_box.places count suits is.is.is cuts.order
      (λ i within. cut_within d count shape.mcus (i + 1) cuts (omega (arith, within)))
      (λ i within. kept_if (layout_of version).placed (file_places version most made file some is) _ i
      (slice_is_kept shape (pad_at is.pads) is.mcus is.is.scan d count is.plan.header_length small
      is.is.is.grid is.is.is.text cuts i within))
      ∙ ap₂ good_join
      (joined_scan shape (pad_at is.pads) is.mcus is.is.scan d count suits.shape_is is.is.is.grid
      is.is.is.text cuts.none cuts.whole cuts.order)
      (sum_of_all shape told is.mcus is.is.scan suits.shape_is is.is.is.grid text d count cuts)

  abbrev last : List ℕ × Spot
  last = (
    take (bytes_done shape pads is.mcus shape.mcus) is.is.scan,
    spot_at shape pads is.mcus shape.mcus,
  )

  whole_put : mcus_put shape pads first_spot is.mcus ≡ Ok last
  whole_put =
      let long = is.is.is.grid.count in
      let suits = suits version most made file some is in
      let parts =
      done_in_parts shape pads is.mcus is.is.scan shape.mcus suits.shape_is is.is.is.grid
      text in
      ap (mcus_put shape pads first_spot) (sym (take_all shape.mcus is.mcus (omega (arith, long))))
      ∙ parts.0

  -- what the segments padded is told so
  spelled : is_spelled told (mcus_sum shape told first_spot is.mcus) ≡ true
  spelled =
      ap (λ (sum : PadSum). is_spelled told sum)
      (scan_sum shape told is.mcus last is.is.is.grid whole_put)
      ∙ (rows.how_told version is.plan is.mcus is.pads header is.trailer is.is.scan None
      file_box.places count (suits version most made file some is) is.is.is).spelled

  pub is_restored : IsRestored file_box (joined (outputs_of is.plan file_box)) file
  is_restored =
      subst (λ (j : Joined). IsRestored file_box j file) (sym all_joined) (record {
        none = refl;
        text =
            file_is version most made file some is ∙ sym (append_assoc header is.is.scan is.trailer);
        told = spelled;
      })
