-- A chunk's container stands for the chunk.
use Rattle.std.proofs.Common.{◌≡◌, ℕ, ◌+◌, ◌-◌, ◌*◌, ◌<◌, ◌≤◌, Bool, true, false, if◌then◌else◌, List, [], ◌∷◌, ◌++◌, length, Some, None, inl, inr, refl, sym, ap, ap₂, ◌∙◌, arith, append_assoc, append-nil}
use Rattle.std.specs.Prelude.{nat_lt, flat_map}
use Rattle.std.proofs.lemmas.Bool.{cases_lt}
use Rattle.std.proofs.lemmas.Bool.Decides.{nat_tests}
use Rattle.byte_window.specs.Slices.{Cover, slice}
use Rattle.byte_window.specs.Windows.{window}
use Rattle.byte_window.specs.PartedFiles.{PartedFile, bytes_within, header_within, skip_within, window_within}
use Rattle.byte_window.proofs.SliceParts.{no_slice}
use Rattle.byte_window.proofs.PartedFacts.{bytes_are_enough, slice_of_file}
use Rattle.scan_spec.specs.Scans.{pad_at}
use Rattle.scan_spec.specs.Slots.{Shape, shape_of}
use Rattle.scan_spec.specs.Spots.{bytes_done}
use Rattle.handover.specs.declared.pads.PadSum.{PadSum}
use Rattle.cut_spec.specs.RowHandovers.{segment_bytes}
use Rattle.cut_spec.specs.Seams.{slices}
use Rattle.box_format.specs.Parts.{BoxParts, BoxSeen, rows_most}
use Rattle.box_format.specs.declared.chunk.Chunk.{Chunk}
use Rattle.box_format.specs.declared.version.Version.TheVariants.{Third}
use Rattle.box_format.proofs.Singles.{one_is_container}
use Rattle.container_spec.specs.Files.{told_pads}
use Rattle.container_spec.specs.Meanings.{Meaning, Restored}
use Rattle.container_spec.specs.Indexed.{outputs_of}
use Rattle.container_spec.specs.declared.kind.Kind.TheVariants.{Chunk as OfChunk}
use Rattle.container_spec.specs.Portions.{chunk_portion, ending_by, faultless_end, meaning_of}
use Rattle.container_spec.proofs.JoinedSegments.{Joined, all_sum, good_join, joined, joined_alone}
use Rattle.container_spec.proofs.PortionsMeant.{chunk_alone}
use Rattle.container_spec.proofs.SlicesMeant.{slice_sum}
use Rattle.container_spec.specs.Chunks.{IsChunkOf, chunk_of}
use Rattle.container_spec.specs.ChunkLaws.{ChunkIsRestored}
use Rattle.container_spec.proofs.RowsPlaced.{segments_are_the_rows}
use Rattle.container_spec.proofs.ChunkBoxes as boxes
use Rattle.container_spec.proofs.ChunkBoxes.{chunk_fields, same_header, same_most}
use Rattle.container_spec.proofs.RestoredRows.{rows_joined}

not_less : (m n : ℕ) → n ≤ m → nat_lt m n ≡ false
not_less m n under = grind (arith, nat_tests)

taken_last : (t : Bool) (a b : Meaning) → t ≡ false → (if t then a else b) ≡ b
taken_last true a b e = absurd (let f : true ≡ false = e in cc)
taken_last false a b e = refl

module _ (most size i : ℕ) (made file : List ℕ) (some : 0 < most)
    (is : IsChunkOf most size i made file) where
  abbrev shape : Shape
  shape = shape_of is.plan

  abbrev parts : PartedFile
  parts = boxes.parts most size i made file some is

  abbrev place : ℕ
  place = boxes.place most size i made file some is

  abbrev end : ℕ
  end = boxes.end most size i made file some is

  abbrev rows : Cover
  rows = boxes.rows most size i made file some is

  abbrev count : ℕ
  count = boxes.segments most size i made file some is

  abbrev d : ℕ → ℕ
  d j = boxes.cut_at most size i made file some is j

  abbrev box : BoxParts
  box = boxes.box most size i made file some is

  abbrev bytes_at : ℕ → ℕ → List ℕ
  bytes_at from to = segment_bytes shape (pad_at is.pads) is.mcus is.is.scan from to

  abbrev sum_at : ℕ → PadSum
  sum_at j = slice_sum shape (told_pads is.plan is.mcus is.pads) is.mcus (d j) (d (j + 1))

  abbrev done : ℕ → ℕ
  done row = bytes_done shape (pad_at is.pads) is.mcus (is.plan.across * row)

  -- the segments' bytes, one after another, are those of the rows; there is no segment if there is no row
  all_bytes : flat_map (λ bytes. bytes) (slices bytes_at d 0 count) ≡ bytes_within parts place end
  all_bytes =
      let grid = boxes.grid most size i made file some is in
      elim (cases_lt rows.from rows.to) [
        | inl under ↦
            let suits = boxes.suits most size i made file some is in
            segments_are_the_rows is.plan is.mcus is.pads parts.header is.is.scan is.trailer rows most
            suits.shape_is is.is.is some under grid.1
        | inr past ↦
            let low = grid.0 in
            let same : rows.to ≡ rows.from = omega (arith, low, past) in
            let none : count ≡ 0 = omega (arith, past) in
            ap (λ n. flat_map (λ bytes. bytes) (slices bytes_at d 0 n)) none
            ∙ sym (no_slice (done rows.from) is.is.scan)
            ∙ ap (λ n. slice (done rows.from) (done n) is.is.scan) (sym same)
      ]

  all_joined : joined (outputs_of is.plan box)
      ≡ good_join (bytes_within parts place end) (all_sum sum_at 0 count)
  all_joined =
      rows_joined Third is.plan is.mcus is.pads parts.header box.trailer is.is.scan box.chunk None
      count (boxes.suits most size i made file some is) is.is.is
      (boxes.cut_rises most size i made file some is)
      (λ j within. boxes.cut_within most size i made file some is (j + 1) (omega (arith, within))
      (omega (arith, within)))
      (λ j within. tt)
      ∙ ap (λ bytes. good_join bytes (all_sum sum_at 0 count)) all_bytes

  -- the rows have as many bytes as the chunk skips and has
  enough : nat_lt (length (bytes_within parts place end))
      (skip_within parts place end + rows_most (chunk_fields parts place end) parts.header box.trailer)
      ≡ false
  enough =
      let order = boxes.order most size i made file some is in
      let placed = boxes.is_placed most size i made file some is in
      let long = bytes_are_enough parts place end placed in
      let same = same_most parts place end placed order (boxes.end_in_parts most size i made file some is) in
      not_less (length (bytes_within parts place end))
      (skip_within parts place end + rows_most (chunk_fields parts place end) parts.header box.trailer)
      (omega (arith, long, same))

  -- the chunk's bytes
  abbrev bytes_with : List ℕ → ℕ → List ℕ
  bytes_with header n =
      header ++ window (record { skip = skip_within parts place end; most = Some n })
      (bytes_within parts place end) ++ box.trailer

  bytes_are : bytes_with (slice place (place + (end - place)) parts.header)
      (rows_most (chunk_fields parts place end) parts.header box.trailer)
      ≡ chunk_of file size i
  bytes_are =
      let order = boxes.order most size i made file some is in
      let placed = boxes.is_placed most size i made file some is in
      ap₂ bytes_with (same_header parts place end order)
      (same_most parts place end placed order (boxes.end_in_parts most size i made file some is))
      ∙ append_assoc (header_within parts place end)
      (window (window_within parts place end) (bytes_within parts place end)) box.trailer
      ∙ slice_of_file parts place end placed
      ∙ ap (slice place end) (sym (boxes.file_is most size i made file some is))

  meaning_is : meaning_of is.plan box
      ≡ record { bytes = chunk_of file size i; verdict = Restored }
  meaning_is =
      let s : BoxSeen = record { plan = is.plan; parts = box } in
      let c : Chunk = chunk_fields parts place end in
      chunk_alone s c refl
      ∙ ap (λ (j : Joined). ending_by (OfChunk c) (s ∷ []) (chunk_portion c (s ∷ [])) (joined_alone j)
      j.fault) all_joined
      ∙ ap (λ (after : List ℕ). faultless_end (OfChunk c) (s ∷ []) (record (chunk_portion c (s ∷ [])) {
        within = record { skip = c.skip; most = Some (rows_most c parts.header after) };
        after = after;
      })
      (joined_alone (good_join (bytes_within parts place end) (all_sum sum_at 0 count))))
      (append-nil box.trailer)
      ∙ taken_last (nat_lt (length (bytes_within parts place end))
      (skip_within parts place end
      + rows_most (chunk_fields parts place end) parts.header box.trailer)) _ _ enough
      ∙ ap (λ (bytes : List ℕ). record { bytes = bytes; verdict = Restored }) bytes_are

pub chunk_is_restored : ChunkIsRestored
chunk_is_restored most size i made file some allowed is =
    let s : BoxSeen =
    record { plan = is.plan; parts = boxes.box most size i made file some is } in
    inr (
      s ∷ [],
      (
        Third,
        one_is_container s made
            (record { box = boxes.box_is most size i made file some is allowed; one = refl; text = is.spelled }),
      ),
      sym (meaning_is most size i made file some is),
    )
