-- A chunk's parts, as they are found by where the rows of a file start.
use Rattle.std.proofs.Common.{◌≡◌, ℕ, zero, suc, ◌+◌, ◌-◌, ◌*◌, ◌<◌, ◌≤◌, ◌^◌, Bool, true, false, List, length, take, drop, get_or, map, inl, inr, refl, sym, ap, ap₂, subst, ◌∙◌, append_assoc, arith, ◌∷◌, [], ◌++◌}
use Rattle.std.specs.Prelude.{◌==◌, nat_lt, max, min, if◌then◌else◌, Some, None}
use Rattle.std.specs.List.{AllByRecursion, range_with_len}
use Rattle.std.proofs.lemmas.Bool.{cases_lt}
use Rattle.std.proofs.lemmas.Bool.Decides.{nat_tests}
use Rattle.std.proofs.lemmas.List.{length-take-le, map-id}
use Rattle.std.proofs.lemmas.List.FromFn.{length-map-range_with_len, get_or-map-range_with_len}
use Rattle.byte_window.specs.Slices.{Cover, slice, has_place, with_part, cover, chunk_from, chunk_to}
use Rattle.byte_window.specs.PartedFiles.{PartedFile, parts_within, skip_of, trailer_within}
use Rattle.byte_window.proofs.PartedFacts.{parts_are_in_file}
use Rattle.bit_list.specs.Bits.{IsByte}
use Rattle.jpeg_marker.specs.Plans.{PlanFields}
use Rattle.jpeg_marker.specs.AcceptedPlans.{HasPlan}
use Rattle.jpeg_marker.specs.HeaderPlan.{Accepts}
use Rattle.jpeg_marker.proofs.HeadersTaken.{accepted_has_plan}
use Rattle.handover.specs.Handovers.{HandoverFields, start}
use Rattle.scan_spec.specs.FileParts.{IsFileOf}
use Rattle.scan_spec.specs.Pads.{PadBits}
use Rattle.scan_spec.specs.Scans.{pad_at}
use Rattle.scan_spec.specs.Slots.{shape_of}
use Rattle.scan_spec.specs.Spots.{bytes_done}
use Rattle.scan_spec.proofs.PlanShapes.{can_be_shape}
use Rattle.cut_spec.specs.Cuts.{Cut, first_mcu, row_of}
use Rattle.cut_spec.specs.RowHandovers.{handover_at, mcus_between}
use Rattle.box_format.specs.Parts.{BoxParts, box_cut}
use Rattle.box_format.specs.Single.{IsBox, box_bytes}
use Rattle.box_format.specs.Versions.{layout_of}
use Rattle.box_format.specs.declared.chunk.Chunk.{Chunk}
use Rattle.box_format.specs.declared.version.Version.TheVariants.{Third}
use Rattle.container_spec.specs.Files.{cut_start, plan_cut, segment_start}
use Rattle.container_spec.specs.ScanStream.{stream_of}
use Rattle.container_spec.proofs.CutsOfPlans.{mcus_within, each_has_mcus}
use Rattle.container_spec.proofs.Numbered.{mapped_same}
use Rattle.segment_code.specs.FileStarts.{StartsFields}
use Rattle.segment_code.specs.Starting.{AreStarts}
use Rattle.container_spec.specs.Chunks.{IsChunkOf, file_rows, parts_of_chunk, rows_cut}
use Rattle.chunk_cut.specs.Found.{chunk_found, handovers_found, place_of, rows_found}
use Rattle.container_spec.proofs.ChunkBoxes.{box_is, chunk_fields}
use Rattle.container_spec.proofs.RowsPlaced.{all_done}

-- parts that are met alike have one cover
met_alike : (met other : ℕ → Bool) (count : ℕ) → ((i : ℕ) → i < count → met i ≡ other i)
    → cover met count ≡ cover other count
met_alike met other zero each = refl
met_alike met other (suc count) each =
    ap₂ (λ (c : Cover) (t : Bool). with_part c count t)
    (met_alike met other count (λ i under. each i (omega (arith, under)))) (each count (omega arith))

is_less : (m n : ℕ) → m < n → nat_lt m n ≡ true
is_less m n h = grind (arith, nat_tests)

isnt_less : (m n : ℕ) → n ≤ m → nat_lt m n ≡ false
isnt_less m n h = grind (arith, nat_tests)

-- one more item of a list that comes to these
pub one_more : {A : Type 0} (f : ℕ → A) (items more : List A) (x : A) (i count : ℕ) → i < count
    → more ≡ items ++ x ∷ [] → x ≡ f i
    → more ++ map f (range_with_len (i + 1) (count - (i + 1))) ≡ items ++ map f (range_with_len i (count - i))
one_more {A = A} f items more x i count under is at =
    let rest : List A = map f (range_with_len (i + 1) (count - (i + 1))) in
    let left : count - i ≡ suc (count - (i + 1)) = omega (arith, under) in
    ap (λ (l : List A). l ++ rest) is ∙ append_assoc items (x ∷ []) rest
    ∙ ap (λ (y : A). items ++ (y ∷ rest)) at
    ∙ ap (λ (n : ℕ). items ++ map f (range_with_len i n)) (sym left)

-- a chunk with these rows, which skips so many bytes
abbrev chunk_with : ℕ → ℕ → Cover → ℕ → Chunk
chunk_with a b rows skip = record {
  place = a;
  length = b - a;
  skip = skip;
  from = rows.from;
  to = rows.to;
}

-- a segment starts with one of the rows
pub row_below : (cut : Cut) (i : ℕ) → cut.from ≤ cut.to → cut.segments ≤ cut.to - cut.from
    → i < cut.segments → row_of cut i < cut.to
row_below cut i order fits under =
    let narrow : Cut = record cut { across = 1 } in
    let more = each_has_mcus narrow i fits under (omega arith) in
    let last = mcus_within narrow (i + 1) order (omega (arith, under)) (omega (arith, under)) in
    omega (arith, more, last)

module _ (plan : PlanFields) (bytes : List ℕ) (starts : StartsFields)
    (are : AllByRecursion IsByte bytes) (accepts : Accepts bytes plan) (have : AreStarts plan bytes plan.down starts)
    (each : starts.rows ≡ range_with_len 0 plan.down) where
  abbrev pub trailer : List ℕ
  trailer = drop starts.trailer bytes

  abbrev pub file : IsFileOf bytes plan have.mcus have.pads trailer
  file = record {
    header = accepts;
    scan = have.file.scan.scan;
    is = have.file.scan.is;
    text = have.file.scan.text;
  }

  -- the file's parts
  abbrev pub header : List ℕ
  header = take plan.header_length bytes

  abbrev pub parts : PartedFile
  parts = file_rows plan have.mcus have.pads header have.file.scan.scan trailer

  has_plan : HasPlan bytes plan
  has_plan = accepted_has_plan bytes plan are accepts

  header_long : length header ≡ plan.header_length
  header_long = length-take-le plan.header_length bytes has_plan.within

  abbrev cut : Cut
  cut = plan_cut plan plan.down

  count_is : cut.segments ≡ plan.down
  count_is = omega arith

  pub rows_long : length starts.rows ≡ plan.down
  rows_long =
      ap (λ (s : StartsFields). length s.rows) have.are ∙ length-map-range_with_len (row_of cut) 0 cut.segments
      ∙ count_is

  -- each row is a segment of that cut
  row_is : (row : ℕ) → row < plan.down → row_of cut row ≡ row
  row_is row under =
      let none : 0 + row ≡ row = omega arith in
      ap (row_of cut) (sym none)
      ∙ sym (get_or-map-range_with_len (row_of cut) 0 cut.segments row (0 + row) 0 (omega (arith, under)) refl)
      ∙ sym (ap (λ (s : StartsFields). get_or s.rows row 0) have.are)
      ∙ ap (λ (l : List ℕ). get_or l row 0) (each ∙ sym (map-id (range_with_len 0 plan.down)))
      ∙ get_or-map-range_with_len (λ i. i) 0 plan.down row (0 + row) 0 under refl ∙ none

  row_starts : (row : ℕ) → row < plan.down → first_mcu cut row ≡ plan.across * row
  row_starts row under = ap (λ (n : ℕ). plan.across * n) (row_is row under)

  place_found : (row : ℕ) → row < plan.down → get_or starts.places row 0 ≡ parts.place row
  place_found row under =
      let done : ℕ → ℕ = bytes_done (shape_of plan) (pad_at have.pads) have.mcus in
      let first = ap (λ (s : StartsFields). get_or s.places row 0) have.are
      ∙ get_or-map-range_with_len (λ i. plan.header_length + done (first_mcu cut i)) 0 cut.segments row (0 + row) 0 (omega (arith, under)) refl in
      let none : 0 + row ≡ row = omega arith in
      first ∙ ap (λ (i : ℕ). plan.header_length + done (first_mcu cut i)) none
      ∙ ap₂ (λ (h n : ℕ). h + done n) (sym header_long) (row_starts row under)

  end_found : starts.trailer ≡ parts.place plan.down
  end_found =
      have.file.scan.long ∙ ap₂ (λ (h n : ℕ). h + n) (sym header_long)
      (sym (all_done plan have.mcus have.pads header have.file.scan.scan trailer
      (can_be_shape bytes plan have.file.can).0 have.file.scan.is))

  -- the rows' places
  pub place_is : (row : ℕ) → row ≤ plan.down → place_of starts row ≡ parts.place row
  place_is row within =
      elim (cases_lt row (length starts.rows)) [
        | inl under ↦ rw (is_less row (length starts.rows) under)
            (place_found row (omega (arith, under, rows_long)))
        | inr past ↦
            let last : plan.down ≡ row = omega (arith, past, rows_long, within) in
            rw (isnt_less row (length starts.rows) past) (end_found ∙ ap parts.place last)
      ]

  module _ (a b : ℕ) where
    abbrev rows : Cover
    rows = parts_within parts a b

    rows_are : rows_found starts a b ≡ rows
    rows_are =
        ap (cover (has_place (place_of starts) a b)) rows_long
        ∙ met_alike (has_place (place_of starts) a b) (has_place parts.place a b) plan.down
        (λ i under. ap₂ (λ (m n : ℕ). nat_lt (max a m) (min b n))
        (place_is i (omega (arith, under))) (place_is (i + 1) (omega (arith, under))))

    grid : (rows.from ≤ rows.to) × (rows.to ≤ plan.down)
    grid = parts_are_in_file parts a b

    pub chunk_grid : ((chunk_found starts a b).from ≤ (chunk_found starts a b).to)
        × ((chunk_found starts a b).to ≤ plan.down)
    chunk_grid =
        subst (λ (c : Cover). (c.from ≤ c.to) × (c.to ≤ plan.down)) (sym rows_are) grid

    -- the chunk's fields
    pub chunk_is : chunk_found starts a b ≡ chunk_fields parts a b
    chunk_is =
        let order = grid.0 in
        let within = grid.1 in
        ap (λ (c : Cover). chunk_with a b c (skip_of (place_of starts) c a)) rows_are
        ∙ ap (λ (n : ℕ). chunk_with a b rows (if rows.from == rows.to then 0 else a - n))
        (place_is rows.from (omega (arith, order, within)))

    module _ (most : ℕ) where
      abbrev segments : Cut
      segments = rows_cut plan rows most

      -- a segment starts with a row
      row_under : (i : ℕ) → i < segments.segments → row_of segments i < plan.down
      row_under i under =
          let order = grid.0 in
          let within = grid.1 in
          let row = row_below segments i order (omega arith) under in
          omega (arith, row, within)

      start_found : (row : ℕ) → row < plan.down
          → get_or starts.handovers row start
          ≡ handover_at (shape_of plan) (pad_at have.pads) have.mcus (plan.across * row)
      start_found row under =
          let none : 0 + row ≡ row = omega arith in
          ap (λ (s : StartsFields). get_or s.handovers row start) have.are
          ∙ get_or-map-range_with_len (segment_start plan have.mcus have.pads plan.down) 0 cut.segments row (0 + row) start (omega (arith, under)) refl
          ∙ ap (segment_start plan have.mcus have.pads plan.down) none
          ∙ ap (handover_at (shape_of plan) (pad_at have.pads) have.mcus) (row_starts row under)

      -- what its segments start from
      pub handovers_are : handovers_found plan starts (chunk_fields parts a b) segments.segments
          ≡ map (cut_start plan have.mcus have.pads segments) (range_with_len 0 segments.segments)
      handovers_are =
          mapped_same (λ i. get_or starts.handovers (row_of segments i) start)
          (cut_start plan have.mcus have.pads segments) 0 segments.segments
          (λ i after under. start_found (row_of segments i) (row_under i (omega (arith, under))))

      -- its part of the trailer
      pub trailer_is : slice (a - starts.trailer) (b - starts.trailer) trailer
          ≡ trailer_within parts a b
      trailer_is = ap (λ (n : ℕ). slice (a - n) (b - n) trailer) end_found

      -- the parts of its container
      abbrev pub box : BoxParts
      box = parts_of_chunk plan have.mcus have.pads header have.file.scan.scan trailer a b most

      -- the streams of so many segments of a chunk
      abbrev streams_of : Chunk → ℕ → List (List ℕ)
      streams_of at count =
          map (λ i. stream_of plan (mcus_between have.mcus (first_mcu (box_cut plan (Some at) count) i)
          (first_mcu (box_cut plan (Some at) count) (i + 1)))) (range_with_len 0 count)

      -- they are what the starts and their places give
      pub found : {pads : PadBits} {at : Chunk} {count from : ℕ} {header after : List ℕ}
          {handovers : List HandoverFields} {streams : List (List ℕ)}
          → at ≡ chunk_found starts a b → count ≡ min most (at.to - at.from) → pads ≡ starts.pads
          → from ≡ plan.header_length → header ≡ take from bytes
          → after ≡ slice (a - starts.trailer) (b - starts.trailer) trailer
          → handovers ≡ handovers_found plan starts at count → streams ≡ streams_of at count
          → ◌≡◌ {A = BoxParts} (record {
            version = Third;
            chunk = Some at;
            places = None;
            pads = pads;
            header = header;
            trailer = after;
            handovers = handovers;
            streams = streams;
          }) box
      found at count pads from header after handovers streams =
          let chunk = at ∙ chunk_is in
          let many = count ∙ ap (λ (c : Chunk). min most (c.to - c.from)) chunk in
          let told = pads ∙ ap (λ (s : StartsFields). s.pads) have.are in
          let front = header ∙ ap (λ (n : ℕ). take n bytes) from in
          let back = after ∙ trailer_is in
          let started = handovers ∙ ap₂ (handovers_found plan starts) chunk many ∙ handovers_are in
          let coded = streams ∙ ap₂ streams_of chunk many in
          rw (chunk, told, front, back, started, coded) refl

  module _ (most size i : ℕ) (short : length bytes < 2 ^ 32) where
    abbrev pub place : ℕ
    place = chunk_from size i

    abbrev pub end : ℕ
    end = chunk_to (length bytes) size i

    pub is_chunk : place < length bytes
        → IsChunkOf most size i (box_bytes (box place end most)) bytes
    is_chunk there = record {
      bytes = are;
      few = short;
      plan = plan;
      mcus = have.mcus;
      pads = have.pads;
      trailer = trailer;
      is = file;
      there = there;
      spelled = refl;
    }

    pub is_box : 0 < most → most ≤ (layout_of Third).most → place < length bytes
        → IsBox plan (box place end most)
    unfolding is_chunk
    is_box some allowed there =
        box_is most size i (box_bytes (box place end most)) bytes some (is_chunk there) allowed
