-- The parts of a file's container.
use Rattle.std.proofs.Common.{◌≡◌, ℕ, ◌+◌, ◌-◌, ◌*◌, ◌/◌, ◌^◌, ◌<◌, ◌≤◌, Bool, true, false, ◌==◌, not, ◌&&◌, if◌then◌else◌, List, [], ◌++◌, length, take, drop, map, refl, sym, ap, ◌∙◌, subst, arith, append-nil, length-append, None}
use Rattle.std.specs.Prelude.{min}
use Rattle.std.specs.List.{AllByRecursion, range_with_len}
use Rattle.std.proofs.Math.Nat.{mul-le-mul_right, div-le_self}
use Rattle.std.proofs.lemmas.List.{take-append-drop, length-take-le, drop_at}
use Rattle.std.proofs.lemmas.List.FromFn.{length-map-range_with_len}
use Rattle.bit_list.specs.Bits.{IsByte}
use Rattle.jpeg_marker.specs.AcceptedPlans.{HasBegun}
use Rattle.jpeg_marker.specs.HeaderPlan.{Begins}
use Rattle.jpeg_marker.specs.Walks.{Walk}
use Rattle.jpeg_marker.specs.Plans.{IsPlan, most_blocks}
use Rattle.jpeg_marker.proofs.HeadersTaken.{begun_has_plan}
use Rattle.jpeg_marker.proofs.PlanGrids.{few_mcus}
use Rattle.scan_spec.specs.Pads.{Same, Listed, pad_list, bits_sum}
use Rattle.scan_spec.specs.Scans.{padded, pad_counts, pad_at, intervals_of}
use Rattle.scan_spec.specs.Slots.{Shape, shape_of}
use Rattle.scan_spec.proofs.PadSpelling.{list_is_clean}
use Rattle.scan_spec.proofs.PadsAlike.{are_long, intervals_are}
use Rattle.scan_spec.proofs.PlanShapes.{slots_count, begun_is_shape}
use Rattle.handover.specs.Handovers.{HandoverFields, IsHandover}
use Rattle.cut_spec.specs.RowHandovers.{mcus_between}
use Rattle.box_format.specs.Parts.{IsBoxIn, ArePlaces, box_cut, bad_start, list_bytes}
use Rattle.box_format.specs.Versions.{layout_of}
use Rattle.box_format.specs.declared.version.Version.{Version}
use Rattle.box_format.proofs.PartedLists.{all_values}
use Rattle.container_spec.specs.ScanStream.{grid_of, blocks_of, stream_of}
use Rattle.container_spec.specs.Files.{segment_mcus, segment_start, segment_place, parts_of_file, told_pads}
use Rattle.container_spec.proofs.ScanContainers.{IsScanContainer}
use Rattle.container_spec.specs.SegmentLaws.{Suits}
use Rattle.container_spec.proofs.CutsOfPlans.{AreCuts, starts_at, plan_cuts, cut_within}
use Rattle.container_spec.proofs.McuSizes.{IsSmall}
use Rattle.container_spec.proofs.PlacesOfFiles.{placed_if, are_if, are_places}
use Rattle.container_spec.proofs.PlanGrids.{plan_suits}
use Rattle.container_spec.proofs.ScanBytes.{completed}
use Rattle.container_spec.proofs.SlicesMeant.{blocks_are, between_are, between_long}
use Rattle.container_spec.proofs.StartsOfSegments.{handover_at_is, starts_there, none_bad}
use Rattle.container_spec.proofs.StreamSizes.{stream_short, blocks_long}
use Rattle.container_spec.proofs.StreamsOfBlocks.{blocks_stream_bytes}
use Rattle.box_format.proofs.ByteParts.{all_drop, all_take}

-- the list of pad bits: bytes, and at most one for eight of them
record IsFew (count : ℕ) (bytes : List ℕ) : Type 0 where
  pub long : length bytes ≤ (count + 7) / 8
  pub are : AllByRecursion IsByte bytes

list_few : (listed bit : Bool) (pads : List Bool)
    → IsFew (length pads) (list_bytes (if listed then Listed (pad_list pads) else Same bit))
list_few true bit pads = record {
  long = (let h = (list_is_clean pads).0 in omega (arith, h));
  are = completed (padded pads false) [];
}
list_few false bit pads = record { long = omega arith; are = tt }

number_few : (t : Bool) (n k : ℕ) → (if t then 0 else n / k) ≤ n
number_few true n k = omega arith
number_few false n k = div-le_self n k

module _ {w : Walk} (version : Version) (most : ℕ) (made file : List ℕ) (some : 0 < most)
    (is : IsScanContainer w version most made file) where
  has_plan : HasBegun w file is.plan
  has_plan = begun_has_plan w file is.plan is.bytes is.known is.is.header

  pub plan_is : IsPlan is.plan
  plan_is = has_plan.is_plan

  pub suits : Suits (shape_of is.plan) (grid_of is.plan)
  suits = plan_suits w file is.plan is.bytes is.known is.is.header

  -- how many segments, and where they start
  abbrev pub segments : ℕ
  segments = min most is.plan.down

  abbrev pub cut : ℕ → ℕ
  cut i = starts_at is.plan segments i

  pub some_segments : 0 < segments
  some_segments = let high = plan_is.high in omega (arith, high, some)

  pub cuts : AreCuts cut segments (is.plan.across * is.plan.down)
  cuts = plan_cuts is.plan segments some_segments

  pub small : IsSmall (shape_of is.plan)
  small =
      record { is = suits.shape_is; few = (begun_is_shape w file is.plan is.bytes is.known is.is.header).1 }

  pub mcus_few : is.plan.across * is.plan.down ≤ most_blocks
  mcus_few = few_mcus is.plan plan_is

  few : is.plan.across * is.plan.down ≤ 2 ^ 32
  few = let h = mcus_few in omega (arith, h)

  pub header_long : length (take is.plan.header_length file) ≡ is.plan.header_length
  header_long = length-take-le is.plan.header_length file has_plan.within

  header_taken : Begins w (take is.plan.header_length file) is.plan
  header_taken =
      subst (λ (l : List ℕ). Begins w l is.plan) (append-nil (take is.plan.header_length file))
      (has_plan.alone w.place [])

  -- the file's parts one after another
  pub file_is : file ≡ take is.plan.header_length file ++ (is.is.scan ++ is.trailer)
  file_is =
      sym (take-append-drop is.plan.header_length file)
      ∙ ap (λ l. take is.plan.header_length file ++ l) is.is.text

  pub file_long : length (take is.plan.header_length file) + length is.trailer ≤ length file
  file_long =
      let header = take is.plan.header_length file in
      let all = ap length file_is in
      let a = length-append header (is.is.scan ++ is.trailer) in
      let b = length-append is.is.scan is.trailer in
      omega (arith, all, a, b)

  trailer_bytes : AllByRecursion IsByte is.trailer
  trailer_bytes =
      subst (AllByRecursion IsByte)
      (ap (drop (length is.is.scan)) is.is.text
      ∙ drop_at is.is.scan is.trailer (length is.is.scan) refl)
      (all_drop IsByte (length is.is.scan) (drop is.plan.header_length file)
      (all_drop IsByte is.plan.header_length file is.bytes))

  -- the blocks of a segment
  pub segment_blocks : (j : ℕ) → j < segments
      → length (blocks_of (mcus_between is.mcus (cut j) (cut (j + 1))))
      ≡ (cut (j + 1) - cut j) * length (shape_of is.plan).slots
  segment_blocks j within =
      let order = cuts.order j within in
      let last = cut_within cut segments _ (j + 1) cuts (omega (arith, within)) in
      let long : cut (j + 1) ≤ length is.mcus =
      (let m = is.is.is.grid.count in omega (arith, m, last)) in
      blocks_long (shape_of is.plan).slots (mcus_between is.mcus (cut j) (cut (j + 1)))
      (between_are (shape_of is.plan).slots is.mcus (cut j) (cut (j + 1)) is.is.is.grid.each)
      ∙ ap (λ n. n * length (shape_of is.plan).slots)
      (between_long is.mcus (cut j) (cut (j + 1)) order long)

  pub stream_long : (j : ℕ) → j < segments
      → length (stream_of is.plan (segment_mcus is.plan is.mcus most j))
      ≤ 1 + 1141 * ((cut (j + 1) - cut j) * length (shape_of is.plan).slots)
  stream_long j within =
      let mcus = mcus_between is.mcus (cut j) (cut (j + 1)) in
      let each =
      between_are (shape_of is.plan).slots is.mcus (cut j) (cut (j + 1)) is.is.is.grid.each in
      let short = stream_short (grid_of is.plan) (blocks_of mcus)
      (blocks_are (shape_of is.plan).slots mcus each) in
      let many = segment_blocks j within in
      omega (arith, short, many)

  -- all blocks
  pub all_blocks : is.plan.across * is.plan.down * length (shape_of is.plan).slots ≤ most_blocks
  all_blocks =
      let count = slots_count is.plan.components plan_is.some in
      let grid = plan_is.grid in
      let blocks = plan_is.blocks in
      let e = ap (λ n. is.plan.across * is.plan.down * n) count in
      omega (arith, e, grid, blocks)

  stream_fits : (j : ℕ) → j < segments
      → length (stream_of is.plan (segment_mcus is.plan is.mcus most j)) < 2 ^ 64
  stream_fits j within =
      let long = stream_long j within in
      let n = length (shape_of is.plan).slots in
      let last = cut_within cut segments _ (j + 1) cuts (omega (arith, within)) in
      let less : cut (j + 1) - cut j ≤ is.plan.across * is.plan.down = omega (arith, last) in
      let product = mul-le-mul_right n less in
      let all = all_blocks in
      omega (arith, long, product, all)

  handovers_are : (j : ℕ) → j < segments → IsHandover (segment_start is.plan is.mcus is.pads most j)
  handovers_are j within =
      handover_at_is (shape_of is.plan)
      (pad_at is.pads) is.mcus is.is.scan suits.shape_is is.is.is.grid
      is.is.is.text (cut j) few

  -- the pad list has at most a bit for each MCU
  list_is : IsFew (length is.pads) (list_bytes (told_pads is.plan is.mcus is.pads))
  list_is =
      let shape = shape_of is.plan in
      let sum = bits_sum (pad_counts shape.slots (intervals_of shape is.mcus)) is.pads in
      list_few (sum.zero && sum.one) (not sum.zero) is.pads

  pub list_long : length (list_bytes (told_pads is.plan is.mcus is.pads))
      ≤ (is.plan.across * is.plan.down + 7) / 8
  list_long =
      let shape : Shape = shape_of is.plan in
      let some_mcus = suits.shape_is.mcus in
      let grid = is.is.is.grid.count in
      let each =
      are_long (pad_counts shape.slots (intervals_of shape is.mcus)) is.pads is.is.is.told in
      let count = intervals_are shape is.mcus (omega (arith, some_mcus)) (omega (arith, grid)) in
      let number = number_few (shape.interval == 0) (shape.mcus - 1) shape.interval in
      let few_bytes = list_is.long in
      omega (arith, each, count, number, few_bytes, some_mcus)

  -- the places of the segments and of the scan's end
  abbrev pub file_places : List ℕ
  file_places = map (segment_place is.plan is.mcus is.pads most) (range_with_len 0 (segments + 1))

  places_are : (handovers : ℕ) → segments ≡ handovers
      → ArePlaces (length (take is.plan.header_length file)) handovers file_places
  places_are handovers many =
      rw (header_long, ← many) (are_places (shape_of is.plan) (pad_at is.pads) is.mcus is.is.scan
      cut segments is.plan.header_length small is.is.is.grid is.is.is.text cuts is.header_fits
      mcus_few)

  pub box_is : most ≤ (layout_of version).most
      → IsBoxIn w is.plan (parts_of_file version is.plan is.mcus is.pads
      (take is.plan.header_length file) is.trailer most)
  box_is allowed =
      let start : ℕ → HandoverFields = segment_start is.plan is.mcus is.pads most in
      let stream : ℕ → List ℕ = λ j. stream_of is.plan (segment_mcus is.plan is.mcus most j) in
      let many = length-map-range_with_len start 0 segments in
      let count = some_segments in
      record {
        known = is.known;
        header = header_taken;
        whole = sym header_long;
        few = omega (arith, many, allowed);
        cut = record {
          some = λ high. omega (arith, many, count);
          rows = omega (arith, many);
        };
        chunked = sym is.whole;
        chunk = tt;
        placed = placed_if (layout_of version).placed file_places;
        places = are_if (ArePlaces (length (take is.plan.header_length file)) _)
            (layout_of version).placed file_places (places_are _ (sym many));
        pads = is.can;
        streams = length-map-range_with_len stream 0 segments ∙ sym many;
        each = all_values IsHandover start 0 segments
            (λ j within. handovers_are (0 + j) (omega (arith, within)));
        starts = ap (λ n. bad_start (shape_of is.plan) (box_cut is.plan None n) 0
            (map start (range_with_len 0 segments))) many
            ∙ none_bad (shape_of is.plan) (box_cut is.plan None segments) start segments 0
            (λ j after within.
            starts_there (shape_of is.plan)
            (pad_at is.pads) is.mcus is.is.scan suits.shape_is is.is.is.grid
            is.is.is.text (cut j) few (cut_within cut segments _ j cuts (omega (arith, within))));
        header_fits = let h = is.header_fits in omega (arith, h, header_long);
        trailer_fits = is.trailer_fits;
        list_fits = let l = list_long in let m = few in omega (arith, l, m);
        list_bytes_are = list_is.are;
        streams_fit = all_values (λ l. length l < 2 ^ 64) stream 0 segments
            (λ j within. stream_fits (0 + j) (omega (arith, within)));
        header_bytes = all_take IsByte is.plan.header_length file is.bytes;
        trailer_bytes = trailer_bytes;
        stream_bytes = all_values (AllByRecursion IsByte) stream 0 segments
            (λ j within. blocks_stream_bytes (grid_of is.plan)
            (blocks_of (segment_mcus is.plan is.mcus most (0 + j))));
      }
