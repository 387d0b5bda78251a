-- The segments of a container can be begun.
use Rattle.std.proofs.Common.{◌≡◌, ℕ, zero, suc, ◌+◌, ◌-◌, ◌*◌, ◌<◌, ◌≤◌, Bool, true, false, if◌then◌else◌, List, [], ◌∷◌, length, get_or, refl, sym, ap, ap₂, subst, ◌∙◌, arith}
use Rattle.std.specs.Prelude.{◌&&◌, ◌||◌, ◌==◌, not, slice_get, Option, Some, None}
use Rattle.std.specs.List.{list_all}
use Rattle.std.proofs.Math.Nat.{lt_of_mul-lt-mul_left}
use Rattle.std.proofs.lemmas.Bool.{and_parts, eqb-true}
use Rattle.jpeg_marker.specs.Plans.{PlanFields}
use Rattle.jpeg_marker.proofs.HeadersTaken.{begun_has_plan}
use Rattle.scan_spec.specs.Pads.{PadBits}
use Rattle.scan_spec.specs.Slots.{Shape, shape_of}
use Rattle.scan_spec.proofs.PlanShapes.{begun_is_shape}
use Rattle.handover.specs.Handovers.{HandoverFields, start}
use Rattle.handover.specs.HandoverBytes.{is_handover}
use Rattle.cut_spec.specs.Cuts.{Cut, row_of, first_mcu}
use Rattle.cut_spec.specs.RowHandovers.{markers_before}
use Rattle.box_format.specs.declared.chunk.Chunk.{Chunk}
use Rattle.box_format.specs.Parts.{BoxParts, IsScanBox, bad_start, box_cut, box_rows, can_start, is_start, is_unused_zero}
use Rattle.box_format.proofs.OneCuts.{ordered, in_grid}
use Rattle.container_spec.proofs.CutsOfPlans.{each_has_mcus}
use Rattle.container_spec.specs.ScanStream.{grid_of}
use Rattle.container_spec.specs.Meanings.{kept_in, segment_in}
use Rattle.container_spec.specs.SegmentLaws.{Suits}
use Rattle.segment_code.specs.BegunSegments.{segment_with}
use Rattle.segment_code.proofs.GridsOfPlans.{has_grid}
use Rattle.segment_code.proofs.SlotsOfGrid.{slots_of_grid}

-- ---- what each starts from

good_or_bad : (t : Bool) (i : ℕ) (later : Option ℕ) → (if t then later else Some i) ≡ None
    → (t ≡ true) × (later ≡ None)
good_or_bad true i later e = (refl, e)
good_or_bad false i later e = cc

each_can_start : (shape : Shape) (cut : Cut) (handovers : List HandoverFields) (from i : ℕ)
    → bad_start shape cut from handovers ≡ None → i < length handovers
    → can_start shape (first_mcu cut (from + i)) (get_or handovers i start) ≡ true
each_can_start shape cut [] from i none below = absurd (omega (arith, below))
each_can_start shape cut (h ∷ handovers) from zero none below =
    let same : from ≡ from + 0 = omega arith in
    subst (λ (n : ℕ). can_start shape (first_mcu cut n) h ≡ true) same
    (good_or_bad (can_start shape (first_mcu cut from) h) from
    (bad_start shape cut (from + 1) handovers) none).0
each_can_start shape cut (h ∷ handovers) from (suc i) none below =
    let same : from + 1 + i ≡ from + suc i = omega arith in
    subst (λ (n : ℕ). can_start shape (first_mcu cut n) (get_or handovers i start) ≡ true) same
    (each_can_start shape cut handovers (from + 1) i
    (good_or_bad (can_start shape (first_mcu cut from) h) from
    (bad_start shape cut (from + 1) handovers) none).1 (omega (arith, below)))

restarts_are : (shape : Shape) (count : ℕ) (h : HandoverFields) → can_start shape count h ≡ true
    → h.restarts ≡ markers_before shape count
restarts_are shape count h can =
    let zeros = list_all (is_unused_zero shape h) (0 ∷ 1 ∷ 2 ∷ 3 ∷ []) in
    let counted = h.restarts == markers_before shape count in
    let first = not (count == 0) || is_start h in
    let all = and_parts (is_handover h) (zeros && (counted && first)) can in
    let rest = and_parts zeros (counted && first) all.1 in
    eqb-true h.restarts (markers_before shape count) (and_parts counted first rest.1).0

-- ---- its rows

pub box_suits : (plan : PlanFields) (b : BoxParts) → IsScanBox plan b
    → Suits (shape_of plan) (grid_of plan)
box_suits plan b (w, box) =
    let has = begun_has_plan w b.header plan box.header_bytes box.known box.header in
    let is = has.is_plan in
    let grid = has_grid plan is in
    record {
      shape_is = (begun_is_shape w b.header plan box.header_bytes box.known box.header).0;
      grid_is = record { across = is.wide; mcu = grid.some };
      blocks = slots_of_grid plan is;
    }

-- a segment's row and MCUs were counted
pub record IsCounted (plan : PlanFields) (b : BoxParts) (i row count : ℕ) : Type 0 where
  pub box : IsScanBox plan b
  pub under : i < length b.handovers
  pub is_row : row ≡ row_of (box_cut plan b.chunk (length b.handovers)) i
  pub counted : first_mcu (box_cut plan b.chunk (length b.handovers)) i + count
      ≡ first_mcu (box_cut plan b.chunk (length b.handovers)) (i + 1)
  pub within : first_mcu (box_cut plan b.chunk (length b.handovers)) i + count
      ≤ plan.across * plan.down

-- for a plan, a chunk and a number of segments that are a container's
pub counted_in : (plan p q : PlanFields) (b : BoxParts) (k : Option Chunk) (n i row count : ℕ)
    → q ≡ p → p ≡ plan → k ≡ b.chunk → n ≡ length b.handovers → IsScanBox p b → i < length b.handovers
    → row ≡ row_of (box_cut q k n) i
    → first_mcu (box_cut q k n) i + count ≡ first_mcu (box_cut q k n) (i + 1)
    → first_mcu (box_cut q k n) i + count ≤ q.across * q.down → IsCounted plan b i row count
counted_in plan p q b k n i row count same here chunk many box under is_row counted within =
    let all = same ∙ here in
    let cut : box_cut q k n ≡ box_cut plan b.chunk (length b.handovers) =
    ap₂ (λ (r : PlanFields) (c : Option Chunk). box_cut r c n) all chunk
    ∙ ap (box_cut plan b.chunk) many in record {
      box = subst (λ (r : PlanFields). IsScanBox r b) here box;
      under = under;
      is_row = is_row ∙ ap (λ (c : Cut). row_of c i) cut;
      counted = subst (λ (c : Cut). first_mcu c i + count ≡ first_mcu c (i + 1)) cut counted;
      within = subst (λ (c : Cut). first_mcu c i + count ≤ plan.across * plan.down) cut
          (subst (λ (r : PlanFields). first_mcu (box_cut q k n) i + count ≤ r.across * r.down) all
          within);
    }

-- a container's rows are in order, and rows of the grid
pub rows_ordered : (p q : PlanFields) (b : BoxParts) (k : Option Chunk) → q ≡ p → k ≡ b.chunk
    → IsScanBox p b → (box_rows q k).from ≤ (box_rows q k).to
rows_ordered p q b k same chunk (w, box) =
    subst (λ (c : Option Chunk). (box_rows q c).from ≤ (box_rows q c).to) (sym chunk)
    (subst (λ (r : PlanFields). (box_rows r b.chunk).from ≤ (box_rows r b.chunk).to) (sym same)
    (ordered p b.header b.trailer b.chunk 0 box.chunk))

pub rows_in_grid : (p q : PlanFields) (b : BoxParts) (k : Option Chunk) → q ≡ p → k ≡ b.chunk
    → IsScanBox p b → (box_rows q k).to ≤ q.down
rows_in_grid p q b k same chunk (w, box) =
    subst (λ (c : Option Chunk). (box_rows q c).to ≤ q.down) (sym chunk)
    (subst (λ (r : PlanFields). (box_rows r b.chunk).to ≤ r.down) (sym same)
    (in_grid p b.header b.trailer b.chunk 0 box.chunk))

module _ (plan : PlanFields) (b : BoxParts) (i row count : ℕ)
    (is : IsCounted plan b i row count) where
  from_is : plan.across * row ≡ first_mcu (box_cut plan b.chunk (length b.handovers)) i
  from_is = ap (λ (r : ℕ). plan.across * r) is.is_row

  pub some_mcus : 0 < count
  some_mcus =
      let box = is.box.1 in
      let has = begun_has_plan is.box.0 b.header plan box.header_bytes box.known box.header in
      let is_plan = has.is_plan in
      let more =
      each_has_mcus (box_cut plan b.chunk (length b.handovers)) i box.cut.rows is.under is_plan.wide
      in
      let counted = is.counted in
      omega (arith, counted, more)

  pub within_rows : row < plan.down
  within_rows =
      let some = some_mcus in
      let same = from_is in
      let within = is.within in
      lt_of_mul-lt-mul_left plan.across (omega (arith, within, some, same))

  pub within_mcus : plan.across * row + count ≤ plan.across * plan.down
  within_mcus = let same = from_is in let within = is.within in omega (arith, within, same)

  pub starts_there : (get_or b.handovers i start).restarts
      ≡ markers_before (shape_of plan) (plan.across * row)
  starts_there =
      let box = is.box.1 in
      restarts_are (shape_of plan) (first_mcu (box_cut plan b.chunk (length b.handovers)) i)
      (get_or b.handovers i start)
      (let none : 0 + i ≡ i = omega arith in
      subst (λ (n : ℕ). can_start (shape_of plan) (first_mcu (box_cut plan b.chunk (length b.handovers)) n)
      (get_or b.handovers i start) ≡ true) none
      (each_can_start (shape_of plan) (box_cut plan b.chunk (length b.handovers)) b.handovers 0 i box.starts
      is.under))
      ∙ ap (markers_before (shape_of plan)) (sym from_is)

  -- its parts are those of the container
  pub same_segment : (stream : List ℕ) (h : HandoverFields) (next : Option HandoverFields)
      (kept : Option ℕ) (pads : PadBits) → stream ≡ get_or b.streams i []
      → h ≡ get_or b.handovers i start → next ≡ slice_get b.handovers (i + 1)
      → kept ≡ kept_in b.places i → pads ≡ b.pads
      → segment_with plan i stream h row count next kept pads ≡ segment_in plan b i
  same_segment stream h next kept pads stream_is h_is next_is kept_is pads_is =
      let cut = box_cut plan b.chunk (length b.handovers) in
      let counted = is.counted in
      let count_is : count ≡ first_mcu cut (i + 1) - first_mcu cut i = omega (arith, counted) in
      ap₂ (λ (l : List ℕ) (g : HandoverFields). segment_with plan i l g row count next kept pads)
      stream_is h_is
      ∙ ap₂ (λ (r c : ℕ). segment_with plan i (get_or b.streams i []) (get_or b.handovers i start)
      r c next kept pads) is.is_row count_is
      ∙ ap₂ (λ (n : Option HandoverFields) (k : Option ℕ). segment_with plan i (get_or b.streams i [])
      (get_or b.handovers i start) (row_of cut i) (first_mcu cut (i + 1) - first_mcu cut i) n k pads)
      next_is kept_is
      ∙ ap (λ (p : PadBits). segment_with plan i (get_or b.streams i []) (get_or b.handovers i start)
      (row_of cut i) (first_mcu cut (i + 1) - first_mcu cut i) (slice_get b.handovers (i + 1))
      (kept_in b.places i) p) pads_is
