-- What stands for a file is its container.
use Rattle.std.proofs.Common.{◌≡◌, ℕ, ◌+◌, ◌-◌, ◌^◌, ◌≤◌, ◌<◌, Bool, true, false, if◌then◌else◌, Option, Some, None, not, ◌==◌, ◌/◌, List, [], ◌∷◌, ◌++◌, length, take, drop, map, refl, sym, ap, subst, ◌∙◌, arith, append_assoc, zero-add}
use Rattle.std.specs.Prelude.{min, slice_index, IfSome, is_some}
use Rattle.std.specs.List.{AllByRecursion, list_all, range_with_len}
use Rattle.std.proofs.lemmas.Bool.{and_parts, eqb-true}
use Rattle.std.proofs.lemmas.List.{take_at, drop_at}
use Rattle.huff_table.proofs.Pairs.{all-append}
use Rattle.bit_list.specs.Bits.{IsByte, bits_of}
use Rattle.jpeg_marker.specs.HeaderPlan.{Begins}
use Rattle.jpeg_marker.specs.Walks.{Walk, walk_text}
use Rattle.jpeg_marker.specs.Plans.{PlanFields, IsPlan}
use Rattle.jpeg_marker.proofs.HeadersTaken.{begun_has_plan}
use Rattle.jpeg_marker.proofs.PlanGrids.{few_mcus}
use Rattle.scan_spec.specs.Pads.{PadBits, Same, Listed, bit_for, intervals_sum, is_spelled, interval_count, list_room}
use Rattle.scan_spec.specs.Scans.{AreMcus, IsScan, pad_counts, pad_at, intervals_of}
use Rattle.scan_spec.specs.ScanLaws.{bytes_in}
use Rattle.scan_spec.specs.Slots.{Shape, shape_of}
use Rattle.scan_spec.specs.Spots.{first_spot, mcus_put, count_in, spot_in, bytes_done}
use Rattle.scan_spec.specs.FileParts.{IsScanOf}
use Rattle.scan_spec.proofs.PadSpelling.{CanTell, kept, kept_are, kept_agree, told_again}
use Rattle.scan_spec.proofs.PadsAlike.{pads_alike, intervals_are}
use Rattle.scan_spec.proofs.PutWhole.{put_whole}
use Rattle.handover.specs.declared.pads.PadSum.{PadSum}
use Rattle.handover.specs.Handovers.{HandoverFields, start}
use Rattle.cut_spec.specs.Cuts.{first_mcu}
use Rattle.cut_spec.specs.RowHandovers.{handover_of, handover_at, mcus_between}
use Rattle.box_format.specs.Parts.{BoxParts, ArePlaces, IsBoxIn, box_cut, can_pad, is_list, list_bytes}
use Rattle.box_format.specs.Single.{box_bytes}
use Rattle.box_format.specs.Versions.{layout_of}
use Rattle.box_format.specs.declared.version.Version.{Version}
use Rattle.box_format.specs.declared.version.Version.TheVariants.{Fifth}
use Rattle.container_spec.specs.ScanStream.{grid_of, blocks_of, blocks_stream, stream_of}
use Rattle.container_spec.specs.SegmentLaws.{Suits}
use Rattle.container_spec.specs.Segments.{segment_output}
use Rattle.container_spec.specs.Meanings.{segment_in}
use Rattle.container_spec.proofs.JoinedSegments.{joined}
use Rattle.container_spec.specs.Files.{parts_of_file, places_of_file, told_pads}
use Rattle.container_spec.proofs.ScanContainers.{IsScanContainer}
use Rattle.container_spec.specs.Indexed.{indexed, places_found, outputs_of}
use Rattle.container_spec.proofs.ChainedSegments.{Chained, chained}
use Rattle.container_spec.proofs.CutsOfPlans.{AreCuts, starts_at, plan_cuts}
use Rattle.container_spec.proofs.Numbered.{mapped_is}
use Rattle.container_spec.proofs.PaddedMcus.{scan_sum}
use Rattle.container_spec.proofs.PlacesFound.{found_is}
use Rattle.container_spec.proofs.PlacesOfContainers.{place_is}
use Rattle.container_spec.proofs.PlanGrids.{plan_suits}
use Rattle.container_spec.proofs.PutsAlike.{done_alike as same_done}
use Rattle.container_spec.proofs.ReachedSegments.{Reached, whole}
use Rattle.container_spec.proofs.RestoredMeanings.{IsRestored, first_start}
use Rattle.container_spec.proofs.ScanBytes.{put_are_bytes}
use Rattle.container_spec.proofs.SpotsAlike.{handovers_alike}
use Rattle.container_spec.proofs.SpotsKept.{first_is_spot}
use Rattle.container_spec.proofs.StartsOfSegments.{first_handover}
use Rattle.box_format.proofs.SingleBytes.{pads_more}

-- a header is taken, whatever follows it
begins_more : (w : Walk) (header rest : List ℕ) (plan : PlanFields) → Begins w header plan
    → Begins w (header ++ rest) plan
begins_more w header rest plan is = record {
  before = is.before;
  scan = is.scan;
  rest = is.rest ++ rest;
  header = is.header;
  text = ap (λ l. l ++ rest) is.text
      ∙ append_assoc (walk_text w (is.before ++ is.scan ∷ [])) is.rest rest;
  says = is.says;
}

-- the version that a container names

-- pad bits that a version can say
can_tell : (listed : Bool) (shape : Shape) (count : ℕ) (told : PadBits)
    → count ≡ interval_count shape → AllByRecursion IsByte (list_bytes told)
    → can_pad listed shape told ≡ true → CanTell count told
can_tell listed shape count (Same pad) e all can = tt
can_tell listed shape count (Listed bytes) e all can =
    let clean = list_all (λ bit. not bit) (drop (interval_count shape) (bits_of bytes)) in
    let there = (and_parts listed (is_list shape bytes) can).1 in
    let parts = and_parts (length bytes == list_room shape) clean there in
    record {
      are = all;
      long = eqb-true (length bytes) (list_room shape) parts.0
          ∙ ap (λ n. (n + 7) / 8) (sym e);
      clean = ap (λ n. list_all (λ bit. not bit) (drop n (bits_of bytes))) e ∙ parts.1;
    }

-- parts by what a file determines
same_parts : (b : BoxParts) (places : Option (List ℕ)) (pads : PadBits) (header : List ℕ)
    (handovers : List HandoverFields) (streams : List (List ℕ)) → b.places ≡ places
    → b.pads ≡ pads → b.header ≡ header → b.handovers ≡ handovers → b.streams ≡ streams
    → b
    ≡ record b {
      places = places;
      pads = pads;
      header = header;
      handovers = handovers;
      streams = streams;
    }
same_parts b places pads header handovers streams c d e f g = rw (← c, ← d, ← e, ← f, ← g) refl

-- places that a version keeps, or none
placed_by : (placed : Bool) (places : Option (List ℕ)) (all : List ℕ) → is_some places ≡ placed
    → ((some : List ℕ) → places ≡ Some some → some ≡ all)
    → places ≡ (if placed then Some all else None)
placed_by true (Some places) all placed each = ap (λ (l : List ℕ). Some l) (each places refl)
placed_by true None all placed each = cc
placed_by false (Some places) all placed each = cc
placed_by false None all placed each = refl

module _ {w : Walk} (plan : PlanFields) (parts : BoxParts) (file : List ℕ)
    (is : IsBoxIn w plan (whole parts))
    (so : IsRestored (whole parts) (joined (outputs_of plan (whole parts))) file) where
  abbrev pub b : BoxParts
  b = whole parts

  abbrev shape : Shape
  shape = shape_of plan

  abbrev pads : ℕ → Bool
  pads = bit_for b.pads

  abbrev count : ℕ
  count = length b.handovers

  abbrev cut : ℕ → ℕ
  cut i = starts_at plan count i

  abbrev scan : List ℕ
  scan = (joined (outputs_of plan b)).bytes

  plan_is : IsPlan plan
  plan_is = (begun_has_plan w b.header plan is.header_bytes is.known is.header).is_plan

  pub some : 0 < length b.handovers
  some = is.cut.some plan_is.high

  pub few : shape.mcus ≤ 2 ^ 32
  few = let h = few_mcus plan plan_is in omega (arith, h)

  pub suits : Suits (shape_of plan) (grid_of plan)
  suits = plan_suits w b.header plan is.header_bytes is.known is.header

  pub cuts : AreCuts (starts_at plan (length b.handovers)) (length b.handovers) (shape_of plan).mcus
  cuts = plan_cuts plan count some

  reached : Reached plan b 0 count first_spot
  reached = record {
    is = first_is_spot;
    counted = sym cuts.none;
    at = λ some. first_start shape
        (box_cut plan None count) b.handovers some is.each cuts.none is.starts
        ∙ sym (first_handover shape);
  }

  pub chain : Chained plan b few suits.grid_is is.each cuts 0 count first_spot
  chain =
      chained plan b few suits.grid_is is.each cuts count 0 first_spot (omega arith) reached so.none

  are : AreMcus shape chain.mcus
  are = record {
    count = (let a = chain.long in
        let b = cuts.none in
        let c = ap cut (zero-add count) ∙ cuts.whole in omega (arith, a, b, c));
    each = chain.all;
  }

  abbrev counts : List ℕ
  counts = pad_counts shape.slots (intervals_of shape chain.mcus)

  -- the pad bits of the file
  abbrev pub bits : List Bool
  bits = kept b.pads 0 counts

  spelled : is_spelled b.pads (intervals_sum b.pads 0 counts) ≡ true
  spelled =
      ap (λ (sum : PadSum). is_spelled b.pads sum)
      (sym (chain.padded ∙ scan_sum shape b.pads chain.mcus (scan, chain.end) are chain.text))
      ∙ so.told

  -- they are told as they were
  pub told : told_pads plan chain.mcus bits ≡ b.pads
  told =
      let some = suits.shape_is.mcus in
      told_again b.pads counts
      (can_tell (layout_of b.version).listed shape (length counts) b.pads
      (intervals_are shape chain.mcus (omega (arith, some)) are.count) is.list_bytes_are is.pads)
      spelled

  is_scan : IsScan shape chain.mcus bits scan
  is_scan = record {
    grid = are;
    told = kept_are counts b.pads 0;
    text = sym (pads_alike shape chain.mcus pads (pad_at bits) (kept_agree counts b.pads))
        ∙ sym (put_whole shape pads chain.mcus suits.shape_is are) ∙ ap bytes_in chain.text;
  }

  file_is : file ≡ b.header ++ (scan ++ b.trailer)
  file_is = so.text ∙ append_assoc b.header scan b.trailer

  header_is : b.header ≡ take plan.header_length file
  header_is =
      sym (ap (take plan.header_length) file_is
      ∙ take_at b.header (scan ++ b.trailer) plan.header_length (sym is.whole))

  pub file_of : IsScanOf w file plan chain.mcus bits b.trailer
  file_of = record {
    header = subst (λ l. Begins w l plan) (sym file_is)
        (begins_more w b.header (scan ++ b.trailer) plan is.header);
    scan = scan;
    is = is_scan;
    text = ap (drop plan.header_length) file_is
        ∙ drop_at b.header (scan ++ b.trailer) plan.header_length (sym is.whole);
  }

  pub all_bytes : AllByRecursion IsByte file
  all_bytes =
      subst (AllByRecursion IsByte) (sym file_is)
      (all-append IsByte b.header (scan ++ b.trailer) is.header_bytes
      (all-append IsByte scan b.trailer
      (put_are_bytes shape pads chain.mcus first_spot chain.end scan chain.text) is.trailer_bytes))

  abbrev handed : ℕ → ℕ → HandoverFields
  handed n i = handover_at shape (pad_at bits) chain.mcus (first_mcu (box_cut plan None n) i)

  abbrev streamed : ℕ → ℕ → List ℕ
  streamed n i =
      stream_of plan (mcus_between chain.mcus (first_mcu (box_cut plan None n) i)
      (first_mcu (box_cut plan None n) (i + 1)))

  as_many : count ≡ min count plan.down
  as_many = let h = is.cut.rows in omega (arith, h)

  handovers_are : b.handovers ≡ map (handed (min count plan.down)) (range_with_len 0 (min count plan.down))
  handovers_are =
      mapped_is (handed count) b.handovers 0 start
      (λ k within.
      let none = cuts.none in
      let f = ap cut (zero-add k) in
      let e : cut k - cut 0 ≡ cut (0 + k) = omega (arith, none, f) in
      chain.handovers k (omega arith) (omega (arith, within))
      ∙ ap (λ n. handover_of shape
      (spot_in (mcus_put shape pads first_spot (take n chain.mcus)))) e
      ∙ handovers_alike shape pads (pad_at bits) chain.mcus (cut (0 + k)))
      ∙ ap (λ n. map (handed n) (range_with_len 0 n)) as_many

  streams_are : b.streams ≡ map (streamed (min count plan.down)) (range_with_len 0 (min count plan.down))
  streams_are =
      let long = is.streams in
      mapped_is (streamed count) b.streams 0 []
      (λ k within.
      let none = cuts.none in
      let e : cut k - cut 0 ≡ cut k = omega (arith, none) in
      chain.streams k (omega arith) (omega (arith, within, long))
      ∙ ap (λ n. blocks_stream (grid_of plan)
      (blocks_of (take (cut (k + 1) - cut k) (drop n chain.mcus)))) e
      ∙ ap (streamed count) (sym (zero-add k)))
      ∙ ap (λ n. map (streamed count) (range_with_len 0 n)) long
      ∙ ap (λ n. map (streamed n) (range_with_len 0 n)) as_many

  -- the first MCUs complete as many bytes with the pad bits that are kept as with those that the container spells
  done_alike : (n : ℕ)
      → bytes_done shape (pad_at bits) chain.mcus n ≡ bytes_done shape pads chain.mcus n
  done_alike n =
      same_done shape chain.mcus (pad_at bits) pads scan n suits.shape_is are is_scan.text
      (sym (put_whole shape pads chain.mcus suits.shape_is are) ∙ ap bytes_in chain.text)

  abbrev placed : ℕ → ℕ → ℕ
  placed n i =
      plan.header_length + bytes_done shape (pad_at bits) chain.mcus (first_mcu (box_cut plan None n) i)

  kept_places : (places : List ℕ) → b.places ≡ Some places
      → ArePlaces (length b.header) count places
  kept_places places some =
      subst (λ p. IfSome p (ArePlaces (length b.header) count)) some is.places

  -- where the bytes of the segments before leave off
  bytes_there : (k : ℕ) → k ≤ count
      → length b.header
      + length (joined (map (λ i. segment_output (segment_in plan b i)) (range_with_len 0 k))).bytes
      ≡ placed count (0 + k)
  bytes_there k few =
      let none = cuts.none in
      let e : cut (0 + k) - cut 0 ≡ cut (0 + k) = omega (arith, none) in
      let put = (chain.through k few).1 in
      let same : bytes_done shape pads chain.mcus (cut (0 + k))
      ≡ length (joined (map (λ i. segment_output (segment_in plan b i)) (range_with_len 0 k))).bytes =
      ap (λ n. count_in (mcus_put shape pads first_spot (take n chain.mcus))) (sym e)
      ∙ ap count_in put in
      let alike = done_alike (cut (0 + k)) in
      let whole = is.whole in
      omega (arith, same, alike, whole)

  -- a place is there
  place_there : (places : List ℕ) (k : ℕ) → b.places ≡ Some places → k ≤ count
      → slice_index places k ≡ placed count (0 + k)
  place_there places k some few =
      place_is plan b places (length b.header) count k some (kept_places places some) few so.none
      ∙ bytes_there k few

  pub places_are : b.places ≡ places_of_file (layout_of b.version).placed plan chain.mcus bits count
  places_are =
      placed_by (layout_of b.version).placed b.places
      (map (placed (min count plan.down)) (range_with_len 0 (min count plan.down + 1))) is.placed
      (λ places some.
      let long = (kept_places places some).count in
      mapped_is (placed count) places 0 0
      (λ k within. place_there places k some (omega (arith, within, long)))
      ∙ ap (λ n. map (placed count) (range_with_len 0 n)) long
      ∙ ap (λ n. map (placed n) (range_with_len 0 (n + 1))) as_many)

  -- the same parts in another version, with its places
  abbrev pub parts_in : Version → Option (List ℕ) → BoxParts
  parts_in version places = record b { version = version; places = places }

  pub parts_are : (version : Version) (places : Option (List ℕ))
      → places ≡ places_of_file (layout_of version).placed plan chain.mcus bits count
      → parts_in version places
      ≡ parts_of_file version plan chain.mcus bits (take plan.header_length file) b.trailer count
  parts_are version places are =
      same_parts (parts_in version places)
      (places_of_file (layout_of version).placed plan chain.mcus bits count)
      (told_pads plan chain.mcus bits) (take plan.header_length file) _ _ are (sym told)
      header_is handovers_are streams_are

  container_in : (version : Version) (places : Option (List ℕ))
      → (layout_of version).chunked ≡ false
      → can_pad (layout_of version).listed shape b.pads ≡ true
      → places ≡ places_of_file (layout_of version).placed plan chain.mcus bits count
      → (made : List ℕ) → made ≡ box_bytes (parts_in version places)
      → IsScanContainer w version count made file
  container_in version places chunked can there made text = record {
    known = is.known;
    whole = chunked;
    bytes = all_bytes;
    plan = plan;
    mcus = chain.mcus;
    pads = bits;
    trailer = b.trailer;
    is = file_of;
    header_fits = let h = is.header_fits in let e = is.whole in omega (arith, h, e);
    trailer_fits = is.trailer_fits;
    can = ap (can_pad (layout_of version).listed shape) told ∙ can;
    spelled = text ∙ ap box_bytes (parts_are version places there);
  }

  pub container_is : (layout_of b.version).chunked ≡ false → (made : List ℕ) → made ≡ box_bytes b
      → IsScanContainer w b.version count made file
  container_is chunked made text =
      container_in b.version b.places chunked is.pads places_are made text

  -- with the places found it is one of the fifth version
  found_there : places_found plan b
      ≡ map (placed (min count plan.down)) (range_with_len 0 (min count plan.down + 1))
  found_there =
      found_is plan b (placed count) so.none bytes_there
      ∙ ap (λ n. map (placed n) (range_with_len 0 (n + 1))) as_many

  pub indexed_is : IsScanContainer w Fifth count (box_bytes (indexed plan b)) file
  indexed_is =
      container_in Fifth (Some (places_found plan b)) refl
      (pads_more (layout_of b.version).listed shape b.pads is.pads)
      (ap (λ (l : List ℕ). Some l) found_there) (box_bytes (indexed plan b)) refl

-- parts without a chunk
pub without : (b : BoxParts) → b.chunk ≡ None → b ≡ whole b
without b e = rw (← e) refl
