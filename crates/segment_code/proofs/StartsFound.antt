-- The starts that a reader finds are those of the file.
use Rattle.std.proofs.Common.{◌≡◌, ℕ, ◌+◌, ◌*◌, ◌<◌, ◌≤◌, Bool, List, [], ◌∷◌, ◌++◌, map, refl, ap, ap₂, ◌∙◌, sym, arith}
use Rattle.std.specs.Prelude.{ℤ, Ok, min}
use Rattle.std.specs.List.{AllByRecursion, range_with_len}
use Rattle.bit_list.specs.Bits.{IsByte}
use Rattle.jpeg_marker.specs.Plans.{PlanFields}
use Rattle.jpeg_marker.specs.AcceptedPlans.{CanScan}
use Rattle.scan_spec.specs.Slots.{shape_of}
use Rattle.scan_spec.specs.Pads.{PadBits, spelling_of}
use Rattle.scan_spec.specs.Scans.{Mcu, pad_at}
use Rattle.scan_spec.specs.Spots.{Spot, bytes_done}
use Rattle.scan_spec.specs.ScanCalls.{ScanReader, reader_at, resume_place}
use Rattle.scan_spec.specs.ScanLaws.{Begins, IsShape}
use Rattle.scan_spec.specs.ScanReading.{Standing, scan_at}
use Rattle.scan_spec.specs.ScanPads.{scan_pads}
use Rattle.scan_spec.proofs.ScanTaken.{spelled, summed_again}
use Rattle.scan_spec.proofs.PlanShapes.{can_be_shape}
use Rattle.handover.specs.Handovers.{HandoverFields}
use Rattle.cut_spec.specs.Cuts.{Cut, first_mcu, row_of}
use Rattle.cut_spec.specs.HandedOver.{spot_in}
use Rattle.cut_spec.specs.RowHandovers.{handover_of, handover_at}
use Rattle.cut_spec.proofs.SegmentsRead.{first_are_read}
use Rattle.container_spec.specs.Files.{plan_cut, segment_start, told_pads}
use Rattle.segment_code.specs.FileStarts.{StartsFields, starts_of}
use Rattle.segment_code.specs.CodedMcus.{AreReadOn}
use Rattle.segment_code.specs.FoundPads.{FoundPads, none_found, pads_through}
use Rattle.segment_code.specs.FoundStarts.{found, handover_after, place_after, stands_after, standing_or}
use Rattle.segment_code.specs.Starting.{AreStarts}
use Rattle.segment_code.specs.StartsInside.{starts_more}
use Rattle.segment_code.proofs.CutsOfPlans.{start_within}
use Rattle.segment_code.proofs.SegmentNumbers.{map_alike, map_more}

-- a reader stands where it was found to
pub stands_there : (n : ℕ) (first reader : ScanReader) (mcus : List (List (List ℤ)))
    → AreReadOn n first reader mcus → stands_after first n ≡ reader.at
stands_there n first reader mcus so = ap (standing_or first.at) so.read

-- the starts of a segment more
pub found_more : (first reader : ScanReader) (cut : Cut) (i row : ℕ) (mcus : List (List (List ℤ)))
    → AreReadOn (first_mcu cut i) first reader mcus → row ≡ row_of cut i → (s : StartsFields)
    → s ≡ found first cut i
    → (place : ℕ) → place ≡ resume_place reader.at.cursor → (handover : HandoverFields)
    → handover ≡ handover_of first.shape (spot_in first.bytes reader.at)
    → starts_more s row place handover ≡ found first cut (i + 1)
found_more first reader cut i row mcus so row_is s is place place_is handover handover_is =
    let there = stands_there (first_mcu cut i) first reader mcus so in
    let r : map (row_of cut) (range_with_len 0 (i + 1)) ≡ map (row_of cut) (range_with_len 0 i) ++ row ∷ [] =
    map_more (row_of cut) i row row_is in
    let p : map (λ j. place_after first (first_mcu cut j)) (range_with_len 0 (i + 1))
    ≡ map (λ j. place_after first (first_mcu cut j)) (range_with_len 0 i) ++ place ∷ [] =
    map_more (λ j. place_after first (first_mcu cut j)) i place
    (place_is ∙ ap (λ (at : Standing). resume_place at.cursor) (sym there)) in
    let h : map (λ j. handover_after first (first_mcu cut j)) (range_with_len 0 (i + 1))
    ≡ map (λ j. handover_after first (first_mcu cut j)) (range_with_len 0 i) ++ handover ∷ [] =
    map_more (λ j. handover_after first (first_mcu cut j)) i handover
    (handover_is ∙ ap (λ (at : Standing). handover_of first.shape (spot_in first.bytes at))
    (sym there)) in
    rw (is, r, p, h) refl

-- where the MCUs of a file are known, so are those that the reader stood after
pub record FoundAt (plan : PlanFields) (mcus : List Mcu) (pads : List Bool) (bytes : List ℕ) (n : ℕ) : Type 0
  where
    pub place : place_after (reader_at (shape_of plan) bytes plan.header_length) n
        ≡ plan.header_length + bytes_done (shape_of plan) (pad_at pads) mcus n
    pub handover : handover_after (reader_at (shape_of plan) bytes plan.header_length) n
        ≡ handover_at (shape_of plan) (pad_at pads) mcus n

pub found_at : (plan : PlanFields) (mcus : List Mcu) (pads : List Bool) (bytes : List ℕ) (after n : ℕ)
    → IsShape (shape_of plan) → Begins (shape_of plan) mcus pads bytes plan.header_length after
    → n ≤ plan.across * plan.down
    → FoundAt plan mcus pads bytes n
found_at plan mcus pads bytes after n is begins few =
    let first = first_are_read (shape_of plan) bytes plan.header_length after mcus pads n is begins
    few in
    let there : stands_after (reader_at (shape_of plan) bytes plan.header_length) n ≡ first.0 =
    ap (standing_or (reader_at (shape_of plan) bytes plan.header_length).at) first.1 in
    record {
      place = ap (λ (at : Standing). resume_place at.cursor) there ∙ first.2.resumes;
      handover = ap (λ (at : Standing). handover_of (shape_of plan) (spot_in bytes at)) there
          ∙ ap (λ (s : Spot). handover_of (shape_of plan) s) first.2.spot;
    }

abbrev starts_with : List ℕ → List ℕ → List HandoverFields → PadBits → ℕ → StartsFields
starts_with rows places handovers pads trailer =
    record { rows = rows; places = places; handovers = handovers; pads = pads; trailer = trailer }

-- with the scan's end, the starts found are the file's
starts_are : (plan : PlanFields) (mcus : List Mcu) (pads : List Bool) (bytes : List ℕ) (after most : ℕ)
    → IsShape (shape_of plan) → Begins (shape_of plan) mcus pads bytes plan.header_length after
    → 0 < min most plan.down
    → record (found (reader_at (shape_of plan) bytes plan.header_length) (plan_cut plan most)
    (plan_cut plan most).segments) { pads = told_pads plan mcus pads; trailer = after }
    ≡ starts_of plan mcus pads after most
starts_are plan mcus pads bytes after most is begins some =
    let cut = plan_cut plan most in
    let first = reader_at (shape_of plan) bytes plan.header_length in
    let at = λ (i : ℕ) (under : i < cut.segments). found_at plan mcus pads bytes after
    (first_mcu cut i) is begins (start_within cut i refl (omega (arith, under)) some) in
    let places : map (λ i. place_after first (first_mcu cut i)) (range_with_len 0 cut.segments)
    ≡ map (λ i. plan.header_length + bytes_done (shape_of plan) (pad_at pads) mcus
    (first_mcu cut i)) (range_with_len 0 cut.segments) =
    map_alike _ _ cut.segments (λ i under. (at i under).place) in
    let handovers : map (λ i. handover_after first (first_mcu cut i)) (range_with_len 0 cut.segments)
    ≡ map (segment_start plan mcus pads most) (range_with_len 0 cut.segments) =
    map_alike _ _ cut.segments (λ i under. (at i under).handover) in
    ap₂ (λ (ps : List ℕ) (hs : List HandoverFields). starts_with
    (map (row_of cut) (range_with_len 0 cut.segments)) ps hs (told_pads plan mcus pads) after) places
    handovers

pub are_starts : (bytes : List ℕ) (plan : PlanFields) (most : ℕ) (read : List (List (List ℤ)))
    (end : Standing) → AllByRecursion IsByte bytes → CanScan bytes plan → 0 < most
    → scan_at (shape_of plan) bytes plan.header_length ≡ Ok (read, end)
    → (pads : FoundPads) → pads
    ≡ pads_through (shape_of plan).mcus (reader_at (shape_of plan) bytes plan.header_length)
    none_found
    → AreStarts plan bytes most (record (found (reader_at (shape_of plan) bytes plan.header_length)
    (plan_cut plan most) (plan_cut plan most).segments)
    { pads = spelling_of pads.bits pads.sum; trailer = end.cursor.next })
are_starts bytes plan most read end are can some scan found_pads pads_are =
    let shape = (can_be_shape bytes plan can).0 in
    let place = plan.header_length in
    let told = spelled (shape_of plan) bytes place read end shape are can.within scan in
    let pads = scan_pads (shape_of plan) bytes place in
    let high = can.is_plan.high in
    let sum = summed_again (shape_of plan) bytes place end.cursor.next told.0 pads shape told.2 in
    let same : spelling_of found_pads.bits found_pads.sum ≡ told_pads plan told.0 pads =
    ap (λ (f : FoundPads). spelling_of f.bits f.sum) pads_are ∙ ap (spelling_of pads) sum in
    record {
      mcus = told.0;
      pads = pads;
      file = record { can = can; scan = told.2 };
      are = ap (λ (p : PadBits). record (found (reader_at (shape_of plan) bytes place)
          (plan_cut plan most) (plan_cut plan most).segments)
          { pads = p; trailer = end.cursor.next }) same
          ∙ starts_are plan told.0 pads bytes end.cursor.next most shape told.2
          (omega (arith, high, some));
    }
