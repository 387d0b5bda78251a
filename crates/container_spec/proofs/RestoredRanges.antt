-- The ranges of a container that stands for a file.
use Rattle.std.proofs.Common.{◌≡◌, ℕ, ◌+◌, ◌-◌, ◌≤◌, Bool, false, List, ◌++◌, length, map, take, drop, Option, Some, None, sym, ap, ap₂, subst, ◌∙◌, arith, length-append, append_assoc}
use Rattle.std.specs.Prelude.{◌||◌}
use Rattle.std.proofs.lemmas.Bool.{le-ltb}
use Rattle.std.proofs.lemmas.List.{take_all}
use Rattle.std.specs.List.{range_with_len}
use Rattle.byte_window.specs.Slices.{slice}
use Rattle.byte_window.specs.Windows.{window}
use Rattle.jpeg_marker.specs.Plans.{PlanFields}
use Rattle.handover.specs.declared.outcome.StreamFault.{StreamFault}
use Rattle.box_format.specs.Parts.{BoxParts, file_end}
use Rattle.container_spec.specs.Segments.{Output, segment_output}
use Rattle.container_spec.proofs.JoinedSegments.{Joined, joined}
use Rattle.container_spec.specs.Indexed.{outputs_of}
use Rattle.container_spec.specs.Meanings.{segment_in}
use Rattle.container_spec.specs.RangeMeanings.{places_of, placed_file, is_bad_range, range_meaning}
use Rattle.container_spec.specs.RangeMeaningLaws.{RestoresFile, EndIsKept, RangeIsSlice}
use Rattle.container_spec.proofs.PlacesOfContainers.{place_is}
use Rattle.container_spec.proofs.PortionsMeant.{is_restored}
use Rattle.container_spec.proofs.RestoredMeanings.{IsRestored}
use Rattle.container_spec.proofs.RangePortions.{as_read, joined_between, range_by}
use Rattle.container_spec.proofs.KeptPlaces.{AreKeptPlaces, no_chunk, kept_places, segments_long}
use Rattle.container_spec.proofs.GoodParts.{IsPart, good_bytes, good_part, numbers_between}
use Rattle.byte_window.specs.PartedFiles as parted
use Rattle.byte_window.specs.PartedFiles.{PartedFile, IsPlaced, file_bytes, parts_bytes, parts_within, begun_within, bytes_within, slice_bytes, header_within, window_within, trailer_within}
use Rattle.byte_window.proofs.BegunParts.{list_is_placed, one_more}
use Rattle.byte_window.proofs.PartedFacts.{parts_are_in_file, place_rises, slice_of_file}

module _ (plan : PlanFields) (b : BoxParts) (file : List ℕ) (s : RestoresFile plan b file) where
  abbrev count : ℕ
  count = length b.handovers

  abbrev output : ℕ → Output
  output i = segment_output (segment_in plan b i)

  abbrev outputs : List Output
  outputs = outputs_of plan b

  abbrev segments : List (List ℕ)
  segments = map (λ (output : Output). output.0) outputs

  abbrev f : PartedFile
  f = placed_file plan b

  restored : IsRestored b (joined outputs) file
  restored = is_restored plan b file (no_chunk plan b s.box s.fifth) (sym s.restored)

  kept : AreKeptPlaces b
  kept = kept_places plan b s.box s.fifth

  -- the bytes of segments from one to before another
  between : (from to : ℕ) → from ≤ to → to ≤ count
      → joined (map output (range_with_len from (to - from)))
      ≡ joined (take (to - from) (drop from outputs))
  between from to order within =
      ap joined (numbers_between output from to count order within)

  part : (from n : ℕ) → IsPart outputs from n
  part from n = good_part outputs from n restored.none

  -- a place is where the bytes of the segments before end
  place : (k : ℕ) → k ≤ count
      → f.place k ≡ length b.header + length (parted.joined (take k segments))
  place k few =
      let all : k - 0 ≡ k = omega arith in
      let here =
      place_is plan b (places_of b.places) (length b.header) count k kept.some kept.are few
      restored.none in
      let made = ap (λ (n : ℕ). joined (map output (range_with_len 0 n))) (sym all)
      ∙ between 0 k (omega arith) few
      ∙ ap (λ (n : ℕ). joined (take n outputs)) all in
      let long = ap (λ (x : Joined). length x.bytes) made ∙ ap length (part 0 k).bytes in
      omega (arith, here, long)

  pub is_placed : IsPlaced f
  is_placed =
      subst (λ (n : ℕ). IsPlaced (record f { count = n })) (segments_long plan b)
      (list_is_placed b.header b.trailer (places_of b.places) segments kept.are.first
      (λ i within.
      let long = segments_long plan b in
      let here = place i (omega (arith, within, long)) in
      let next = place (i + 1) (omega (arith, within, long)) in
      let more = one_more segments i within in
      omega (arith, here, next, more)))

  file_is : file ≡ file_bytes f
  file_is =
      let all : count - 0 ≡ count = omega arith in
      let long = segments_long plan b in
      restored.text
      ∙ ap (λ (bytes : List ℕ). (b.header ++ bytes) ++ b.trailer) (good_bytes outputs restored.none)
      ∙ append_assoc b.header (parted.joined segments) b.trailer
      ∙ ap (λ (bytes : List ℕ). b.header ++ (bytes ++ b.trailer))
      (sym (ap (λ (n : ℕ). parted.joined (take n segments)) all
      ∙ ap parted.joined (take_all count segments (omega (arith, long)))))

  end_is : file_end b (places_of b.places) ≡ length file
  end_is =
      let first = is_placed.first in
      let last = is_placed.all in
      let up = place_rises f 0 count is_placed (omega arith) (omega arith) in
      let whole = ap length file_is in
      let parts = length-append b.header (parts_bytes f ++ b.trailer) in
      let rest = length-append (parts_bytes f) b.trailer in
      omega (arith, first, last, up, whole, parts, rest)

  good_range : (from to : ℕ) → from ≤ to → to ≤ length file → is_bad_range b from to ≡ false
  good_range from to order within =
      let end = end_is in
      ap₂ (λ (p q : Bool). p || q) (le-ltb to from order)
      (le-ltb (file_end b (places_of b.places)) to (omega (arith, end, within)))

  -- a range by what goes into it of its segments
  by_parts : (from to : ℕ) (read : List ℕ) (fault : Option StreamFault) → fault ≡ None
      → read ≡ window (window_within f from to) (bytes_within f from to)
      → range_by f from to read fault
      ≡ record { bytes = slice_bytes f from to; fault = None; begun = begun_within f from to }
  by_parts from to read (Some fault) none bytes = absurd cc
  by_parts from to read None none bytes =
      ap (λ (xs : List ℕ). record {
        bytes = header_within f from to ++ (xs ++ trailer_within f from to);
        fault = None;
        begun = begun_within f from to;
      }) bytes

  range_is : (from to : ℕ)
      → range_meaning plan b from to
      ≡ record { bytes = slice from to file; fault = None; begun = begun_within f from to }
  range_is from to =
      let c = parts_within f from to in
      let all = joined_between plan b c in
      let within = parts_are_in_file f from to in
      let same = between c.from c.to within.0 within.1 in
      let mine = part c.from (c.to - c.from) in
      let w = window_within f from to in
      as_read plan b from to
      ∙ by_parts from to (window w all.bytes) all.fault
      (ap (λ (x : Joined). x.fault) same ∙ mine.none)
      (ap (λ (x : Joined). window w x.bytes) same ∙ ap (window w) mine.bytes)
      ∙ ap (λ (bytes : List ℕ). record {
        bytes = bytes;
        fault = None;
        begun = begun_within f from to;
      }) (slice_of_file f from to is_placed ∙ ap (slice from to) (sym file_is))

pub end_is_kept : EndIsKept
end_is_kept plan b file s = end_is plan b file s

pub range_of_container_is_slice : RangeIsSlice
range_of_container_is_slice plan b file from to s order within =
    (good_range plan b file s from to order within, range_is plan b file s from to)
