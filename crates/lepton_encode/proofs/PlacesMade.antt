-- The places of a file's segments and of its scan's end, as its container keeps them.
use Rattle.std.proofs.Common.{◌≡◌, ℕ, suc, ◌+◌, ◌-◌, ◌*◌, ◌<◌, List, [], ◌∷◌, ◌++◌, length, map, get_or, ap, sym, ◌∙◌, arith, append_assoc}
use Rattle.std.specs.List.{range_with_len}
use Rattle.jpeg_marker.specs.Plans.{PlanFields}
use Rattle.scan_spec.specs.Scans.{pad_at}
use Rattle.scan_spec.specs.ScanLaws.{IsShape}
use Rattle.scan_spec.specs.Slots.{shape_of}
use Rattle.scan_spec.specs.Spots.{bytes_done}
use Rattle.scan_spec.proofs.DoneBytes.{done_whole}
use Rattle.cut_spec.specs.Cuts.{first_mcu}
use Rattle.container_spec.specs.Files.{plan_cut, segment_place}
use Rattle.segment_code.specs.FileStarts.{StartsFields}
use Rattle.segment_code.specs.Starting.{AreStarts}
use Rattle.segment_code.proofs.SegmentNumbers.{entry, length_numbers, map_alike, map_more}
use Rattle.lepton_encode.specs.ScansMade.{places_made}

-- one more item of a list that comes to these
pub one_more : {A : Type 0} (f : ℕ → A) (items more : List A) (x : A) (i count : ℕ) → i < count
    → more ≡ items ++ x ∷ [] → x ≡ f i
    → more ++ map f (range_with_len (i + 1) (count - (i + 1))) ≡ items ++ map f (range_with_len i (count - i))
one_more {A = A} f items more x i count under is at =
    let rest : List A = map f (range_with_len (i + 1) (count - (i + 1))) in
    let left : count - i ≡ suc (count - (i + 1)) = omega (arith, under) in
    ap (λ (l : List A). l ++ rest) is ∙ append_assoc items (x ∷ []) rest
    ∙ ap (λ (y : A). items ++ (y ∷ rest)) at
    ∙ ap (λ (n : ℕ). items ++ map f (range_with_len i n)) (sym left)

module _ (plan : PlanFields) (bytes : List ℕ) (most : ℕ) (starts : StartsFields)
    (have : AreStarts plan bytes most starts) (shape_is : IsShape (shape_of plan))
    (whole : first_mcu (plan_cut plan most) (plan_cut plan most).segments
    ≡ plan.across * plan.down) where
  abbrev count : ℕ
  count = (plan_cut plan most).segments

  abbrev place : ℕ → ℕ
  place = segment_place plan have.mcus have.pads most

  -- after all MCUs the scan is over
  last_place : starts.trailer ≡ place count
  last_place =
      let scan = have.file.scan in
      let shape = shape_of plan in
      let all = ap (bytes_done shape (pad_at have.pads) have.mcus) (whole ∙ sym scan.is.grid.count) in
      let done = done_whole shape (pad_at have.pads) have.mcus scan.scan shape_is scan.is.grid
      scan.is.text in
      let long = scan.long in
      omega (arith, all, done, long)

  -- so these are all places
  pub places_are : places_made starts ≡ map place (range_with_len 0 (count + 1))
  places_are =
      let each : map (λ i. get_or (map place (range_with_len 0 count)) i 0) (range_with_len 0 count)
      ≡ map place (range_with_len 0 count) =
      map_alike (λ i. get_or (map place (range_with_len 0 count)) i 0) place count
      (λ i under. entry place 0 count i under) in
      let rows : length starts.rows ≡ count =
      ap (λ (s : StartsFields). length s.rows) have.are ∙ length_numbers _ count 0 in
      let kept : starts.places ≡ map place (range_with_len 0 count) =
      ap (λ (s : StartsFields). s.places) have.are in
      ap (λ (n : ℕ). map (λ i. get_or starts.places i 0) (range_with_len 0 n) ++ starts.trailer ∷ []) rows
      ∙ ap (λ (ps : List ℕ). map (λ i. get_or ps i 0) (range_with_len 0 count) ++ starts.trailer ∷ []) kept
      ∙ ap (λ (l : List ℕ). l ++ starts.trailer ∷ []) each
      ∙ sym (map_more place count starts.trailer last_place)
