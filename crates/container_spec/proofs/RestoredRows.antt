-- The segments of rows of a file, one after another.
use Rattle.std.proofs.Common.{◌≡◌, ℕ, ◌+◌, ◌-◌, ◌<◌, ◌≤◌, Bool, List, [], map, get_or, Ok, Option, Some, inl, inr, refl, sym, ap, ap₂, subst, ◌∙◌, arith, zero-add}
use Rattle.std.specs.Prelude.{slice_get, flat_map}
use Rattle.std.proofs.lemmas.Bool.{cases_lt}
use Rattle.std.specs.List.{range_with_len}
use Rattle.std.proofs.lemmas.List.FromFn.{length-map-range_with_len, get_or-map-range_with_len}
use Rattle.jpeg_marker.specs.Plans.{PlanFields}
use Rattle.scan_spec.specs.Pads.{PadBits, bit_for}
use Rattle.scan_spec.specs.Scans.{IsScan, Mcu, scan_bytes, pad_counts, pad_at, intervals_of}
use Rattle.scan_spec.specs.Slots.{Shape, shape_of}
use Rattle.scan_spec.proofs.PadSpelling.{IsTold, pads_are_told}
use Rattle.scan_spec.proofs.PadsAlike.{pads_alike}
use Rattle.handover.specs.Handovers.{HandoverFields, start}
use Rattle.handover.specs.declared.pads.PadSum.{PadSum}
use Rattle.handover.specs.declared.outcome.Outcome.TheVariants.{Good}
use Rattle.cut_spec.specs.Cuts.{Cut, first_mcu}
use Rattle.cut_spec.specs.RowHandovers.{segment_bytes, handover_at}
use Rattle.cut_spec.specs.Seams.{slices}
use Rattle.box_format.specs.Parts.{BoxParts, box_cut}
use Rattle.box_format.specs.declared.chunk.Chunk.{Chunk}
use Rattle.box_format.specs.declared.version.Version.{Version}
use Rattle.container_spec.specs.ScanStream.{grid_of}
use Rattle.container_spec.specs.Segments.{Output, SegmentFields, segment_output}
use Rattle.container_spec.specs.SegmentLaws.{AreKept, IsNextStart, Suits, segment_between}
use Rattle.container_spec.specs.Files.{cut_start, cut_stream, parts_of_rows, told_pads}
use Rattle.container_spec.specs.Meanings.{kept_in}
use Rattle.container_spec.specs.Indexed.{outputs_of}
use Rattle.container_spec.proofs.JoinedSegments.{all_sum, good_join, joined_good, joined}
use Rattle.container_spec.proofs.Numbered.{mapped_same, got_at, got_none}
use Rattle.container_spec.proofs.PutsAlike.{segment_alike}
use Rattle.container_spec.proofs.SlicesMeant.{slice_output, slice_sum}
use Rattle.container_spec.proofs.SpotsAlike.{handovers_alike}

-- segment i of n in a container, with this stream and start
abbrev segment_with : PlanFields → BoxParts → ℕ → ℕ → List ℕ → HandoverFields → SegmentFields
segment_with plan b n i stream start =
    let cut = box_cut plan b.chunk n in
    record {
      number = i;
      shape = shape_of plan;
      grid = grid_of plan;
      pads = b.pads;
      stream = stream;
      start = start;
      from = first_mcu cut i;
      count = first_mcu cut (i + 1) - first_mcu cut i;
      next = slice_get b.handovers (i + 1);
      kept = kept_in b.places i;
    }

-- with its own
abbrev segment_at : PlanFields → BoxParts → ℕ → ℕ → SegmentFields
segment_at plan b n i =
    segment_with plan b n i (get_or b.streams i []) (get_or b.handovers i start)

module _ (version : Version) (plan : PlanFields) (mcus : List Mcu) (file_pads : List Bool)
    (header trailer scan : List ℕ) (chunk : Option Chunk) (places : Option (List ℕ)) (count : ℕ)
    (suits : Suits (shape_of plan) (grid_of plan))
    (is : IsScan (shape_of plan) mcus file_pads scan) where
  abbrev shape : Shape
  shape = shape_of plan

  abbrev told : PadBits
  told = told_pads plan mcus file_pads

  abbrev pads : ℕ → Bool
  pads = bit_for told

  abbrev counts : List ℕ
  counts = pad_counts shape.slots (intervals_of shape mcus)

  pub how_told : IsTold counts file_pads told
  how_told = pads_are_told counts file_pads is.told

  pub text : scan_bytes shape pads mcus ≡ Ok scan
  text = pads_alike shape mcus pads (pad_at file_pads) how_told.agree ∙ is.text

  abbrev cut : Cut
  cut = box_cut plan chunk count

  abbrev d : ℕ → ℕ
  d i = first_mcu cut i

  -- the container of the rows
  abbrev rows : BoxParts
  rows = record (parts_of_rows version plan mcus file_pads header trailer cut) {
    chunk = chunk;
    places = places;
  }

  -- what the segments start from, by how the pad bits are told
  abbrev handed : ℕ → HandoverFields
  handed i = handover_at shape pads mcus (d i)

  abbrev box : BoxParts
  box = record rows { handovers = map handed (range_with_len 0 count) }

  rows_are_told : rows ≡ box
  rows_are_told =
      ap (λ hs. record rows { handovers = hs })
      (mapped_same (cut_start plan mcus file_pads cut) handed 0 count
      (λ i after within. handovers_alike shape (pad_at file_pads) pads mcus (d i)))

  next_start : (i : ℕ) → IsNextStart shape pads mcus (d i) (slice_get box.handovers i)
  next_start i =
      let long = length-map-range_with_len handed 0 count in
      elim (cases_lt i count) [
        | inl within ↦ subst (IsNextStart shape pads mcus (d i))
            (sym (got_at box.handovers i start (omega (arith, long, within))
            ∙ ap (λ h. Some h) (get_or-map-range_with_len handed 0 count i i start within (zero-add i))))
            refl
        | inr past ↦ subst (IsNextStart shape pads mcus (d i))
            (sym (got_none box.handovers i (omega (arith, long, past)))) tt
      ]

  segment_is : (i : ℕ) → i < count
      → segment_at plan box count i
      ≡ segment_between shape (grid_of plan) told mcus i (d i) (d (i + 1)) (handed i)
      (slice_get box.handovers (i + 1)) (kept_in places i)
  segment_is i within =
      let stream : ℕ → List ℕ = cut_stream plan mcus cut in
      ap₂ (λ (bytes : List ℕ) (h : HandoverFields). segment_with plan box count i bytes h)
      (get_or-map-range_with_len stream 0 count i i [] within (zero-add i))
      (get_or-map-range_with_len handed 0 count i i start within (zero-add i))

  -- the bytes of the scan that a segment completes, and what it pads
  abbrev pub bytes_at : ℕ → ℕ → List ℕ
  bytes_at from to = segment_bytes shape (pad_at file_pads) mcus scan from to

  abbrev pub sum_at : ℕ → PadSum
  sum_at i = slice_sum shape told mcus (d i) (d (i + 1))

  module _ (rising : (i : ℕ) → i < count → d i ≤ d (i + 1))
      (inside : (i : ℕ) → i < count → d (i + 1) ≤ shape.mcus)
      (kept : (i : ℕ) → i < count → AreKept (bytes_at (d i) (d (i + 1))) (kept_in places i)) where
    output_is : (i : ℕ) → i < count
        → segment_output (segment_at plan box count i) ≡ (bytes_at (d i) (d (i + 1)), Good (sum_at i))
    output_is i within =
        let same = segment_alike shape mcus (pad_at file_pads) pads scan (d i) (d (i + 1))
        suits.shape_is is.grid is.text text in
        ap segment_output (segment_is i within)
        ∙ slice_output shape (grid_of plan) told mcus scan i (d i) (d (i + 1))
        (slice_get box.handovers (i + 1)) (kept_in places i) suits is.grid text (rising i within)
        (inside i within) (next_start (i + 1))
        (subst (λ (bytes : List ℕ). AreKept bytes (kept_in places i)) same (kept i within))
        ∙ ap (λ (bytes : List ℕ). let o : Output = (bytes, Good (sum_at i)) in o) (sym same)

    all_outputs : outputs_of plan box
        ≡ map (λ i. segment_output (segment_at plan box count i)) (range_with_len 0 count)
    all_outputs =
        ap (λ n. map (λ i. segment_output (segment_at plan box n i)) (range_with_len 0 n))
        (length-map-range_with_len handed 0 count)

    pub rows_joined : joined (outputs_of plan rows)
        ≡ good_join (flat_map (λ bytes. bytes) (slices bytes_at d 0 count)) (all_sum sum_at 0 count)
    rows_joined =
        ap (λ (b : BoxParts). joined (outputs_of plan b)) rows_are_told ∙ ap joined all_outputs
        ∙ joined_good (λ i. segment_output (segment_at plan box count i)) bytes_at d sum_at count 0
        (λ i after within. output_is i (omega (arith, within)))
