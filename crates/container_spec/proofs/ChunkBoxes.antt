-- The parts of a chunk's container.
use Rattle.std.proofs.Common.{◌≡◌, ℕ, ◌+◌, ◌-◌, ◌*◌, ◌/◌, ◌^◌, ◌==◌, ◌<◌, ◌≤◌, Bool, true, false, if◌then◌else◌, List, ◌++◌, length, take, map, refl, sym, ap, ◌∙◌, arith, length-append}
use Rattle.std.specs.List.{AllByRecursion, range_with_len}
use Rattle.std.proofs.Math.Nat.{mul-le-mul_right, mul-le-mul_left}
use Rattle.std.proofs.lemmas.List.{length-drop}
use Rattle.std.proofs.lemmas.List.FromFn.{length-map-range_with_len}
use Rattle.byte_window.specs.Slices.{Cover, slice, chunk_from, chunk_to}
use Rattle.byte_window.specs.PartedFiles.{PartedFile, IsPlaced, file_bytes, parts_end, parts_within, skip_within, header_within, trailer_within}
use Rattle.byte_window.specs.PartedLaws.{most_within}
use Rattle.byte_window.proofs.SliceParts.{most_is_counted}
use Rattle.byte_window.proofs.PartedFacts.{bytes_are_enough, between_long as rows_long, most_is_left, parts_are_in_file, place_rises}
use Rattle.bit_list.specs.Bits.{IsByte}
use Rattle.jpeg_marker.specs.FirstWalks.{only_walk}
use Rattle.jpeg_marker.specs.Plans.{IsPlan, most_blocks}
use Rattle.jpeg_marker.specs.AcceptedPlans.{HasPlan}
use Rattle.jpeg_marker.proofs.HeadersTaken.{accepted_has_plan, none_known}
use Rattle.scan_spec.specs.Scans.{pad_at}
use Rattle.scan_spec.specs.Slots.{shape_of}
use Rattle.handover.specs.Handovers.{HandoverFields, IsHandover}
use Rattle.cut_spec.specs.Cuts.{Cut, first_mcu}
use Rattle.cut_spec.specs.RowHandovers.{mcus_between}
use Rattle.box_format.specs.Parts.{BoxParts, IsChunkIn, box_cut, bad_start, list_bytes, rows_most}
use Rattle.box_format.specs.Single.{IsBox, box_bytes}
use Rattle.box_format.specs.Versions.{layout_of}
use Rattle.box_format.specs.declared.chunk.Chunk.{Chunk}
use Rattle.box_format.specs.declared.version.Version.TheVariants.{Second, Third}
use Rattle.box_format.proofs.PartedLists.{all_values}
use Rattle.container_spec.proofs.ScanContainers.{IsContainerOfOne}
use Rattle.container_spec.specs.Files.{cut_start, cut_stream, parts_of_file, told_pads}
use Rattle.container_spec.specs.ScanStream.{grid_of, blocks_of}
use Rattle.container_spec.specs.SegmentLaws.{Suits}
use Rattle.container_spec.proofs.CutsOfPlans.{mcus_within, each_has_mcus}
use Rattle.container_spec.proofs.FileParts as whole
use Rattle.container_spec.proofs.PadsTold.{second_can_pad}
use Rattle.container_spec.proofs.SlicesMeant.{blocks_are, between_are, between_long}
use Rattle.container_spec.proofs.StartsOfSegments.{handover_at_is, starts_there, none_bad}
use Rattle.container_spec.proofs.StreamSizes.{stream_short, blocks_long}
use Rattle.container_spec.proofs.StreamsOfBlocks.{blocks_stream_bytes}
use Rattle.container_spec.specs.Chunks.{IsChunkOf, file_rows, parts_of_chunk, rows_cut}
use Rattle.container_spec.proofs.RowsPlaced.{rows_are_placed, rows_are_scan}
use Rattle.box_format.proofs.ByteParts.{all_drop, all_take}

-- ---- the chunk's fields

-- a chunk of a file's bytes from place a to before b
abbrev pub chunk_fields : PartedFile → ℕ → ℕ → Chunk
chunk_fields f a b = record {
  place = a;
  length = b - a;
  skip = skip_within f a b;
  from = (parts_within f a b).from;
  to = (parts_within f a b).to;
}

-- its end
chunk_end : (a b : ℕ) → a ≤ b → a + (b - a) ≡ b
chunk_end a b order = omega (arith, order)

-- its part of the header
pub same_header : (f : PartedFile) (a b : ℕ) → a ≤ b
    → slice a (a + (b - a)) f.header ≡ header_within f a b
same_header f a b order = ap (λ (n : ℕ). slice a n f.header) (chunk_end a b order)

-- how many bytes of the rows are in it
pub same_most : (f : PartedFile) (a b : ℕ) → IsPlaced f → a ≤ b → b ≤ length (file_bytes f)
    → rows_most (chunk_fields f a b) f.header (trailer_within f a b) ≡ most_within f a b
same_most f a b p order within =
    let e = ap length (same_header f a b order) in
    let left = most_is_left f a b p order within in
    omega (arith, e, left)

skip_few : (t : Bool) (a p : ℕ) → (if t then 0 else a - p) ≤ a
skip_few true a p = omega arith
skip_few false a p = omega arith

-- it has room for its parts of header and trailer
room_is : (f : PartedFile) (a b : ℕ) → IsPlaced f → a ≤ b
    → length (header_within f a b) + length (trailer_within f a b) ≤ b - a
room_is f a b p order =
    let first = most_is_counted a b f.header in
    let last = most_is_counted (a - parts_end f) (b - parts_end f) f.trailer in
    let start = p.first in
    let up = place_rises f 0 f.count p (omega arith) (omega arith) in
    omega (arith, order, first, last, start, up)

-- and without a row no other bytes
rowless_is : (f : PartedFile) (a b : ℕ) → IsPlaced f
    → (parts_within f a b).from ≡ (parts_within f a b).to
    → (most_within f a b ≡ 0) × (skip_within f a b ≡ 0)
rowless_is f a b p same =
    let rows = parts_within f a b in
    let grid = parts_are_in_file f a b in
    let enough = bytes_are_enough f a b p in
    let long = rows_long f rows.from rows.to p grid.0 grid.1 in
    let level = ap f.place same in
    (omega (arith, enough, long, level), omega (arith, enough, long, level))

-- the fields of a chunk of fewer than 2^32 bytes, and of as many rows
fields_are : (f : PartedFile) (a b : ℕ) → IsPlaced f → a ≤ b → b ≤ length (file_bytes f) → b < 2 ^ 32
    → f.count < 2 ^ 32 → IsChunkIn f.count f.header (trailer_within f a b) (chunk_fields f a b)
fields_are f a b p order within few rows_few =
    let grid = parts_are_in_file f a b in
    let room = room_is f a b p order in
    let header = ap length (same_header f a b order) in
    let skip = skip_few ((parts_within f a b).from == (parts_within f a b).to) a
    (f.place (parts_within f a b).from) in
    let low = grid.0 in
    let high = grid.1 in
    record {
      order = low;
      within = high;
      room = omega (arith, room, header);
      rowless = λ same.
          let none = rowless_is f a b p same in
          (same_most f a b p order within ∙ none.0, none.1);
      place_fits = omega (arith, order, few);
      length_fits = omega (arith, few);
      skip_fits = omega (arith, skip, order, few);
      from_fits = omega (arith, low, high, rows_few);
      to_fits = omega (arith, high, rows_few);
    }

module _ (most size i : ℕ) (made file : List ℕ) (some : 0 < most)
    (is : IsChunkOf most size i made file) where
  -- the file's parts, and the chunk's first place and its end
  abbrev pub header : List ℕ
  header = take is.plan.header_length file

  abbrev pub parts : PartedFile
  parts = file_rows is.plan is.mcus is.pads header is.is.scan is.trailer

  abbrev pub place : ℕ
  place = chunk_from size i

  abbrev pub end : ℕ
  end = chunk_to (length file) size i

  -- its rows, and the segments that have them
  abbrev pub rows : Cover
  rows = parts_within parts place end

  abbrev pub cut : Cut
  cut = rows_cut is.plan rows most

  abbrev pub segments : ℕ
  segments = cut.segments

  abbrev pub cut_at : ℕ → ℕ
  cut_at j = first_mcu cut j

  -- its container's parts
  abbrev pub box : BoxParts
  box = parts_of_chunk is.plan is.mcus is.pads header is.is.scan is.trailer place end most

  -- ---- the whole file

  has_plan : HasPlan file is.plan
  has_plan = accepted_has_plan file is.plan is.bytes is.is.header

  -- its container
  abbrev whole_box : List ℕ
  whole_box =
      box_bytes (parts_of_file Second is.plan is.mcus is.pads header is.trailer most)

  header_fits : is.plan.header_length < 2 ^ 32
  header_fits =
      let within = has_plan.within in
      let short = is.few in
      omega (arith, within, short)

  trailer_fits : length is.trailer < 2 ^ 32
  trailer_fits =
      let text = ap length is.is.text in
      let rest = length-drop is.plan.header_length file in
      let both = length-append is.is.scan is.trailer in
      let short = is.few in
      omega (arith, text, rest, both, short)

  abbrev whole_is : IsContainerOfOne Second most whole_box file
  whole_is = record {
    known = none_known;
    whole = refl;
    bytes = is.bytes;
    plan = is.plan;
    mcus = is.mcus;
    pads = is.pads;
    trailer = is.trailer;
    is = is.is;
    header_fits = header_fits;
    trailer_fits = trailer_fits;
    can = second_can_pad only_walk file is.trailer is.plan is.mcus is.pads is.bytes none_known is.is;
    spelled = refl;
  }

  pub plan_is : IsPlan is.plan
  plan_is = whole.plan_is Second most whole_box file some whole_is

  pub suits : Suits (shape_of is.plan) (grid_of is.plan)
  suits = whole.suits Second most whole_box file some whole_is

  pub mcus_few : is.plan.across * is.plan.down ≤ most_blocks
  mcus_few = whole.mcus_few Second most whole_box file some whole_is

  pub all_blocks : is.plan.across * is.plan.down * length (shape_of is.plan).slots ≤ most_blocks
  all_blocks = whole.all_blocks Second most whole_box file some whole_is

  pub list_long : length (list_bytes (told_pads is.plan is.mcus is.pads))
      ≤ (is.plan.across * is.plan.down + 7) / 8
  list_long = whole.list_long Second most whole_box file some whole_is

  pub file_is : file ≡ file_bytes parts
  file_is =
      whole.file_is Second most whole_box file some whole_is
      ∙ ap (λ (scan : List ℕ). header ++ (scan ++ is.trailer))
      (sym (rows_are_scan is.plan is.mcus is.pads header is.is.scan is.trailer suits.shape_is is.is.is))

  pub file_long : length header + length is.trailer ≤ length file
  file_long = whole.file_long Second most whole_box file some whole_is

  few : is.plan.across * is.plan.down ≤ 2 ^ 32
  few = let h = mcus_few in omega (arith, h)

  pub is_placed : IsPlaced parts
  is_placed =
      rows_are_placed is.plan is.mcus is.pads header is.is.scan is.trailer suits.shape_is is.is.is

  -- ---- the chunk

  pub order : place ≤ end
  order = let there = is.there in omega (arith, there)

  pub end_within : end ≤ length file
  end_within = omega arith

  pub end_in_parts : end ≤ length (file_bytes parts)
  end_in_parts = let long = ap length file_is in omega (arith, end_within, long)

  pub grid : (rows.from ≤ rows.to) × (rows.to ≤ is.plan.down)
  grid = parts_are_in_file parts place end

  pub chunk_is : IsChunkIn is.plan.down header box.trailer (chunk_fields parts place end)
  chunk_is =
      let wide = mul-le-mul_right is.plan.down plan_is.wide in
      let mcus = mcus_few in
      let short = is.few in
      let within = end_within in
      fields_are parts place end is_placed order end_in_parts (omega (arith, within, short))
      (omega (arith, wide, mcus))

  -- a trailer's part is no longer than the trailer
  pub trailer_few : length box.trailer ≤ length is.trailer
  trailer_few =
      let part = most_is_counted (place - parts_end parts) (end - parts_end parts) is.trailer in
      omega (arith, part)

  -- ---- the segments

  -- no segment starts before an earlier one, nor after the last row
  pub cut_rises : (j : ℕ) → j < segments → cut_at j ≤ cut_at (j + 1)
  cut_rises j under =
      let more = each_has_mcus cut j (omega arith) under plan_is.wide in omega (arith, more)

  pub cut_within : (j : ℕ) → 0 < segments → j ≤ segments
      → cut_at j ≤ is.plan.across * is.plan.down
  cut_within j has under =
      let last = mcus_within cut j grid.0 has under in
      let all = mul-le-mul_left is.plan.across grid.1 in
      omega (arith, last, all)

  -- the blocks of a segment
  pub segment_blocks : (j : ℕ) → j < segments
      → length (blocks_of (mcus_between is.mcus (cut_at j) (cut_at (j + 1))))
      ≡ (cut_at (j + 1) - cut_at j) * length (shape_of is.plan).slots
  segment_blocks j under =
      let last = cut_within (j + 1) (omega (arith, under)) (omega (arith, under)) in
      let long : cut_at (j + 1) ≤ length is.mcus =
      (let m = is.is.is.grid.count in omega (arith, m, last)) in
      blocks_long (shape_of is.plan).slots (mcus_between is.mcus (cut_at j) (cut_at (j + 1)))
      (between_are (shape_of is.plan).slots is.mcus (cut_at j) (cut_at (j + 1)) is.is.is.grid.each)
      ∙ ap (λ n. n * length (shape_of is.plan).slots)
      (between_long is.mcus (cut_at j) (cut_at (j + 1)) (cut_rises j under) long)

  pub stream_long : (j : ℕ) → j < segments
      → length (cut_stream is.plan is.mcus cut j)
      ≤ 1 + 1141 * ((cut_at (j + 1) - cut_at j) * length (shape_of is.plan).slots)
  stream_long j under =
      let mcus = mcus_between is.mcus (cut_at j) (cut_at (j + 1)) in
      let each = between_are (shape_of is.plan).slots is.mcus (cut_at j) (cut_at (j + 1))
      is.is.is.grid.each in
      let short = stream_short (grid_of is.plan) (blocks_of mcus)
      (blocks_are (shape_of is.plan).slots mcus each) in
      let many = segment_blocks j under in
      omega (arith, short, many)

  stream_fits : (j : ℕ) → j < segments → length (cut_stream is.plan is.mcus cut j) < 2 ^ 64
  stream_fits j under =
      let long = stream_long j under in
      let n = length (shape_of is.plan).slots in
      let last = cut_within (j + 1) (omega (arith, under)) (omega (arith, under)) in
      let less : cut_at (j + 1) - cut_at j ≤ is.plan.across * is.plan.down = omega (arith, last) in
      let product = mul-le-mul_right n less in
      let all = all_blocks in
      omega (arith, long, product, all)

  pub handovers_are : (j : ℕ) → j < segments → IsHandover (cut_start is.plan is.mcus is.pads cut j)
  handovers_are j under =
      handover_at_is (shape_of is.plan) (pad_at is.pads) is.mcus is.is.scan suits.shape_is
      is.is.is.grid is.is.is.text (cut_at j) few

  pub box_is : most ≤ (layout_of Third).most → IsBox is.plan box
  box_is allowed =
      let start : ℕ → HandoverFields = cut_start is.plan is.mcus is.pads cut in
      let stream : ℕ → List ℕ = cut_stream is.plan is.mcus cut in
      let many = length-map-range_with_len start 0 segments in
      let file_box = whole.box_is Second most whole_box file some whole_is allowed in
      record {
        known = file_box.known;
        header = file_box.header;
        whole = file_box.whole;
        few = omega (arith, many, allowed);
        cut = record {
          some = λ high. omega (arith, many, high, some);
          rows = omega (arith, many);
        };
        chunked = refl;
        chunk = chunk_is;
        placed = refl;
        places = tt;
        pads = file_box.pads;
        streams = length-map-range_with_len stream 0 segments ∙ sym many;
        each = all_values IsHandover start 0 segments
            (λ j within. handovers_are (0 + j) (omega (arith, within)));
        starts = ap (λ n. bad_start (shape_of is.plan) (box_cut is.plan box.chunk n) 0
            (map start (range_with_len 0 segments))) many
            ∙ none_bad (shape_of is.plan) cut start segments 0
            (λ j after within.
            starts_there (shape_of is.plan) (pad_at is.pads) is.mcus is.is.scan suits.shape_is
            is.is.is.grid is.is.is.text (cut_at j) few
            (cut_within j (omega (arith, within)) (omega (arith, within))));
        header_fits = file_box.header_fits;
        trailer_fits = let part = trailer_few in let all = trailer_fits in omega (arith, part, all);
        list_fits = file_box.list_fits;
        list_bytes_are = file_box.list_bytes_are;
        streams_fit = all_values (λ l. length l < 2 ^ 64) stream 0 segments
            (λ j within. stream_fits (0 + j) (omega (arith, within)));
        header_bytes = file_box.header_bytes;
        trailer_bytes = all_drop IsByte (place - parts_end parts)
            (take (end - parts_end parts) is.trailer)
            (all_take IsByte (end - parts_end parts) is.trailer file_box.trailer_bytes);
        stream_bytes = all_values (AllByRecursion IsByte) stream 0 segments
            (λ j within. blocks_stream_bytes (grid_of is.plan)
            (blocks_of (mcus_between is.mcus (cut_at (0 + j)) (cut_at (0 + j + 1)))));
      }
