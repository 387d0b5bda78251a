-- A segment of a file, read from what its starts say of it.
use Rattle.std.proofs.Common.{◌≡◌, ℕ, zero, suc, ◌+◌, ◌-◌, ◌*◌, ◌<◌, ◌≤◌, Bool, List, [], ◌∷◌, length, take, drop, get_or, ap, ap₂, ◌∙◌, sym, arith}
use Rattle.std.specs.Prelude.{ℤ, Ok, Err}
use Rattle.std.specs.List.{AllByRecursion}
use Rattle.std.proofs.Math.Nat.{mul-le-mul_left}
use Rattle.bit_list.specs.Bits.{IsByte}
use Rattle.coef_block.specs.Block.{IsBlock}
use Rattle.jpeg_marker.specs.Plans.{PlanFields, IsPlan}
use Rattle.scan_spec.specs.Slots.{shape_of}
use Rattle.scan_spec.specs.Scans.{Mcu, IsMcu, pad_at}
use Rattle.scan_spec.specs.Spots.{Spot, bytes_done, spot_at}
use Rattle.scan_spec.specs.ScanCalls.{ScanReader}
use Rattle.scan_spec.specs.ScanLaws.{IsShape, zigzag_of}
use Rattle.scan_spec.specs.ScanReading.{Standing, standing_at}
use Rattle.scan_spec.specs.declared.slot.Slot.{Slot}
use Rattle.scan_spec.specs.declared.refusal.ScanRefusal.{ScanRefusal}
use Rattle.scan_spec.proofs.BitsTaken.{both_fine}
use Rattle.scan_spec.proofs.PlanShapes.{can_be_shape}
use Rattle.handover.specs.Handovers.{HandoverFields, start}
use Rattle.cut_spec.specs.Cuts.{Cut, first_mcu, row_of}
use Rattle.cut_spec.specs.HandedOver.{reader_from}
use Rattle.cut_spec.specs.RowHandovers.{handover_at, markers_before, mcus_between}
use Rattle.cut_spec.proofs.SegmentsRead.{first_are_read, segment_is_read}
use Rattle.container_spec.specs.Files.{plan_cut, segment_start}
use Rattle.container_spec.specs.ScanStream.{stream_of}
use Rattle.container_spec.proofs.CutsOfPlans.{each_has_mcus, mcus_within}
use Rattle.segment_code.specs.FileStarts.{StartsFields, starts_of}
use Rattle.segment_code.specs.CodedMcus.{AreReadOn, next_of}
use Rattle.segment_code.specs.ScanPasses.{IsPartOf, IsPartStream, PartFields, part_reader}
use Rattle.segment_code.specs.Starting.{IsFileAt}
use Rattle.segment_code.proofs.ReadOn.{all_counted}
use Rattle.segment_code.proofs.RowStarts.{own_row}
use Rattle.segment_code.proofs.ScansCoded.{mcus_once}
use Rattle.segment_code.proofs.SegmentNumbers.{entry, length_numbers}

-- what the starts of a file's rows say of one
pub record SaidOf (plan : PlanFields) (mcus : List Mcu) (pads : List Bool) (starts : StartsFields)
    (row : ℕ) : Type 0 where
  pub under : row < length starts.rows
  pub place : get_or starts.places row 0
      ≡ plan.header_length + bytes_done (shape_of plan) (pad_at pads) mcus (plan.across * row)
  pub handover : get_or starts.handovers row start
      ≡ handover_at (shape_of plan) (pad_at pads) mcus (plan.across * row)

pub said_of : (plan : PlanFields) (mcus : List Mcu) (pads : List Bool) (trailer : ℕ)
    (starts : StartsFields) (row : ℕ) → starts ≡ starts_of plan mcus pads trailer plan.down
    → row < plan.down → SaidOf plan mcus pads starts row
said_of plan mcus pads trailer starts row are within =
    let cut = plan_cut plan plan.down in
    let few : row < cut.segments = omega (arith, within) in
    let count : length starts.rows ≡ cut.segments =
    ap (λ (s : StartsFields). length s.rows) are ∙ length_numbers (row_of cut) cut.segments 0 in
    let first : first_mcu cut row ≡ plan.across * row = ap (λ (r : ℕ). plan.across * r)
    (own_row plan.across plan.down row (omega (arith, within))) in
    let place : ℕ → ℕ =
    λ n. plan.header_length + bytes_done (shape_of plan) (pad_at pads) mcus n in
    record {
      under = omega (arith, few, count);
      place = ap (λ (s : StartsFields). get_or s.places row 0) are
          ∙ entry (λ j. place (first_mcu cut j)) 0 cut.segments row few ∙ ap place first;
      handover = ap (λ (s : StartsFields). get_or s.handovers row start) are
          ∙ entry (segment_start plan mcus pads plan.down) start cut.segments row few
          ∙ ap (handover_at (shape_of plan) (pad_at pads) mcus) first;
    }

-- a segment has a row, and its rows are the cut's
pub record HasRows (cut : Cut) (i : ℕ) : Type 0 where
  pub some : row_of cut i < row_of cut (i + 1)
  pub within : row_of cut (i + 1) ≤ cut.to

pub has_rows : (cut : Cut) (i : ℕ) → cut.segments ≤ cut.to - cut.from → i < cut.segments
    → HasRows cut i
has_rows cut i few under =
    let single : Cut = record cut { across = 1 } in
    let some = each_has_mcus single i few under (omega arith) in
    let within = mcus_within single (i + 1) (omega (arith, few, under)) (omega (arith, under))
    (omega (arith, under)) in
    record { some = omega (arith, some); within = omega (arith, within) }

-- rows have an MCU, and their MCUs are in the grid
pub record HasMcus (plan : PlanFields) (from to : ℕ) : Type 0 where
  pub some : plan.across * from < plan.across * to
  pub within : plan.across * to ≤ plan.across * plan.down

pub has_mcus : (plan : PlanFields) (from to : ℕ) → 0 < plan.across → from < to → to ≤ plan.down
    → HasMcus plan from to
has_mcus plan from to wide some within =
    let next : from + 1 ≤ to = omega (arith, some) in
    let more = mul-le-mul_left plan.across next in
    let split : plan.across * (from + 1) ≡ plan.across * from + plan.across = omega arith in
    record {
      some = omega (arith, more, split, wide);
      within = mul-le-mul_left plan.across within;
    }

-- a file's scan is read whole
pub record IsGood (bytes : List ℕ) (plan : PlanFields) : Type 0 where
  pub shape : IsShape (shape_of plan)
  pub is_plan : IsPlan plan

pub good_of : (bytes : List ℕ) (plan : PlanFields) (mcus : List Mcu) (pads : List Bool) (trailer : ℕ)
    → AllByRecursion IsByte bytes → IsFileAt bytes plan mcus pads trailer → IsGood bytes plan
good_of bytes plan mcus pads trailer are file =
    record {
      shape = (can_be_shape bytes plan file.can).0;
      is_plan =
          file.can.is_plan;
    }

-- the restart markers before a row, by its handover
pub markers_are : (bytes : List ℕ) (plan : PlanFields) (mcus : List Mcu) (pads : List Bool)
    (trailer : ℕ) (starts : StartsFields) (row : ℕ) → AllByRecursion IsByte bytes
    → IsFileAt bytes plan mcus pads trailer → row ≤ plan.down → SaidOf plan mcus pads starts row
    → (get_or starts.handovers row start).restarts
    ≡ markers_before (shape_of plan) (plan.across * row)
markers_are bytes plan mcus pads trailer starts row are file within said =
    let good = good_of bytes plan mcus pads trailer are file in
    let n = plan.across * row in
    let first = first_are_read (shape_of plan) bytes plan.header_length trailer mcus pads n
    good.shape file.scan (mul-le-mul_left plan.across within) in
    let counted : first.0.count ≡ 0 + n = all_counted n (shape_of plan) bytes
    (standing_at plan.header_length) first.0 _ first.1 in
    let spot : first.0.count ≡ (spot_at (shape_of plan) (pad_at pads) mcus n).count =
    ap (λ (s : Spot). s.count) first.2.spot in
    let count : (spot_at (shape_of plan) (pad_at pads) mcus n).count ≡ n =
    omega (arith, counted, spot) in
    ap (λ (h : HandoverFields). h.restarts) said.handover
    ∙ ap (markers_before (shape_of plan)) count

-- a segment's reader reads its MCUs
pub part_reads : (part : PartFields) (mcus : List Mcu) (pads : List Bool) (trailer to : ℕ)
    → AllByRecursion IsByte part.bytes → IsFileAt part.bytes part.plan mcus pads trailer
    → IsPartOf part mcus pads to → (reader : ScanReader) → reader ≡ part_reader part
    → (at : Standing) × (next_of part.mcus reader ≡ Ok (
      zigzag_of
          (mcus_between mcus (part.plan.across * part.row) (part.plan.across * to)),
      at,
    ))
part_reads part mcus pads trailer to are file is reader from =
    let plan = part.plan in
    let bytes = part.bytes in
    let good = good_of bytes plan mcus pads trailer are file in
    let has = has_mcus plan part.row to good.is_plan.wide is.some is.within in
    let first = plan.across * part.row in
    let ends = is.ends in
    let read = segment_is_read (shape_of plan) bytes plan.header_length trailer mcus pads first
    (plan.across * to) good.shape file.scan has.some has.within in
    let count : part.mcus ≡ plan.across * to - first = omega (arith, ends) in
    let there : reader ≡ reader_from (shape_of plan) bytes
    (handover_at (shape_of plan) (pad_at pads) mcus first) first
    (plan.header_length + bytes_done (shape_of plan) (pad_at pads) mcus first) =
    from ∙ ap₂ (λ (h : HandoverFields) (place : ℕ). reader_from (shape_of plan) bytes h first place)
    is.handover is.place in
    (read.0, ap₂ next_of count there ∙ read.1)

-- what starts say of a segment's first row makes it rows of the file
pub part_said : (part : PartFields) (mcus : List Mcu) (pads : List Bool) (starts : StartsFields)
    (to : ℕ) → SaidOf part.plan mcus pads starts part.row → part.row < to → to ≤ part.plan.down
    → part.place ≡ get_or starts.places part.row 0
    → part.handover ≡ get_or starts.handovers part.row start
    → part.plan.across * part.row + part.mcus ≡ part.plan.across * to → IsPartOf part mcus pads to
part_said part mcus pads starts to said some within place handover ends = record {
  some = some;
  within = within;
  place = place ∙ said.place;
  handover = handover ∙ said.handover;
  ends = ends;
}

-- so it comes to no refusal
pub not_refused : (n : ℕ) (reader : ScanReader) (read : List (List (List ℤ))) (at : Standing)
    (refusal : ScanRefusal) → next_of n reader ≡ Ok (read, at) → next_of n reader ≡ Err refusal → ⊥
not_refused n reader read at refusal is other = let e : next_of n reader ≡ Err refusal = other in
    let f : next_of n reader ≡ Ok (read, at) = is in cc

-- and what was read are its MCUs
taken : (slots : List Slot) (n : ℕ) (mcus : List Mcu) → AllByRecursion (IsMcu slots) mcus
    → AllByRecursion (IsMcu slots) (take n mcus)
taken slots zero mcus each = tt
taken slots (suc n) [] each = tt
taken slots (suc n) (mcu ∷ mcus) each = (each.0, taken slots n mcus each.1)

dropped : (slots : List Slot) (n : ℕ) (mcus : List Mcu) → AllByRecursion (IsMcu slots) mcus
    → AllByRecursion (IsMcu slots) (drop n mcus)
dropped slots zero mcus each = each
dropped slots (suc n) [] each = tt
dropped slots (suc n) (mcu ∷ mcus) each = dropped slots n mcus each.1

pub between : (slots : List Slot) (from to : ℕ) (mcus : List Mcu)
    → AllByRecursion (IsMcu slots) mcus → AllByRecursion (IsMcu slots) (mcus_between mcus from to)
between slots from to mcus each =
    taken slots (to - from) (drop from mcus) (dropped slots from mcus each)

pub same_mcus : (plan : PlanFields) (mcus all : List Mcu) (from to n : ℕ) (reader new : ScanReader)
    (at : Standing) → AllByRecursion (IsMcu (shape_of plan).slots) mcus
    → AllByRecursion (AllByRecursion IsBlock) all
    → AreReadOn n reader new (zigzag_of all) → next_of n reader
    ≡ Ok (zigzag_of (mcus_between mcus from to), at) → all ≡ mcus_between mcus from to
same_mcus plan mcus all from to n reader new at each blocks so read =
    let same = both_fine (zigzag_of all, new.at) (zigzag_of (mcus_between mcus from to), at)
    (sym so.read ∙ read) in
    mcus_once (shape_of plan).slots all (mcus_between mcus from to) blocks
    (between (shape_of plan).slots from to mcus each) same.0

pub part_streams : (part : PartFields) (reader new : ScanReader) (all : List Mcu) (stream : List ℕ)
    → AllByRecursion IsByte part.bytes → reader ≡ part_reader part
    → AllByRecursion (AllByRecursion IsBlock) all → AreReadOn part.mcus reader new (zigzag_of all)
    → stream ≡ stream_of part.plan all → IsPartStream part stream
part_streams part reader new all stream are from blocks so is =
    λ mcus pads trailer to file of_file.
    let read = part_reads part mcus pads trailer to are file of_file reader from in
    is ∙ ap (stream_of part.plan) (same_mcus part.plan mcus all (part.plan.across * part.row)
    (part.plan.across * to) part.mcus reader new read.0 file.scan.is.grid.each blocks so read.1)
