-- What a scan's MCUs pad is what its intervals come to.
use Rattle.std.proofs.Common.{◌≡◌, ℕ, suc, ◌+◌, ◌<◌, Bool, true, false, ◌==◌, ◌||◌, if◌then◌else◌, List, [], ◌∷◌, length, ℤ, Ok, Err, refl, sym, ap, ap₂, ◌∙◌, arith, inl, inr}
use Rattle.std.specs.List.{AllByRecursion, onto_first}
use Rattle.std.proofs.lemmas.Bool.{eqb-true, eq-eqb, cases_eq}
use Rattle.bit_list.specs.Bits.{begun_after}
use Rattle.bit_list.proofs.Wholes.{begun_count}
use Rattle.handover.specs.PadSums.{no_pads, pads_with}
use Rattle.handover.specs.declared.pads.PadSum.{PadSum}
use Rattle.scan_spec.specs.BlockBits.{Text}
use Rattle.scan_spec.specs.Blocks.{blocks_text, dcs_after}
use Rattle.scan_spec.specs.Pads.{PadBits, bit_for, interval_sum, intervals_sum, text_sum}
use Rattle.scan_spec.specs.Scans.{Mcu, no_dcs, ends_interval, intervals_after, intervals_of, pad_counts, IsMcu, AreMcus}
use Rattle.scan_spec.specs.Slots.{Shape}
use Rattle.scan_spec.specs.Spots.{Spot, first_spot, interval_number, mcus_put, mcu_put, put_text, then_put, spot_in}
use Rattle.scan_spec.proofs.PutWhole.{intervals_some, number_next_of, number_same_of}
use Rattle.scan_spec.proofs.ScanTaken.{first_number}
use Rattle.container_spec.specs.SegmentLaws.{mcus_sum}
use Rattle.container_spec.proofs.PadsOfIntervals.{tells_pads, leaves_none, rest_sum, rest_is, rest_onto, rest_alone}
use Rattle.container_spec.proofs.PutParts.{put_parts}

abbrev spot_of : List Bool → List ℤ → ℕ → Spot
spot_of begun before count = record { begun = begun; before = before; count = count }

-- the MCUs from a spot on pad what their intervals come to
abbrev Whole : Shape → PadBits → List Bool → List ℤ → ℕ → List Mcu → Type 0
Whole shape pads begun before count mcus =
    mcus_sum shape pads (spot_of begun before count) mcus
    ≡ rest_sum pads (interval_number shape count) shape.slots begun before
    (intervals_after shape.interval count mcus)

-- what the intervals from an MCU on come to, by whether it ends one
abbrev sum_by : Bool → Shape → PadBits → List Bool → List Bool → ℕ → PadSum
sum_by closed shape pads begun bits count =
    if closed then interval_sum pads (interval_number shape count) (leaves_none begun bits)
    else no_pads

-- what comes after an MCU that ends an interval
ended : (shape : Shape) (pads : PadBits) (begun bits : List Bool) (before : List ℤ) (count : ℕ)
    (mcu : Mcu) (mcus : List Mcu) → length begun < 8 → blocks_text shape.slots before mcu ≡ Ok bits
    → mcus_sum shape pads (spot_of [] no_dcs (count + 1)) mcus
    ≡ intervals_sum pads (interval_number shape count + 1)
    (pad_counts shape.slots (intervals_after shape.interval (count + 1) mcus))
    → pads_with (interval_sum pads (interval_number shape count) (leaves_none begun bits))
    (mcus_sum shape pads (spot_of [] no_dcs (count + 1)) mcus)
    ≡ rest_sum pads (interval_number shape count) shape.slots begun before
    ((mcu ∷ []) ∷ intervals_after shape.interval (count + 1) mcus)
ended shape pads begun bits before count mcu mcus few text later =
    ap₂ (λ t (more : PadSum). pads_with (interval_sum pads (interval_number shape count) t) more)
    (tells_pads begun bits few) later
    ∙ sym (rest_alone pads (interval_number shape count) shape.slots begun bits before mcu
    (intervals_after shape.interval (count + 1) mcus) text)

-- the spot after an MCU, by whether the scan or an interval ends
abbrev after_by : Bool → Bool → List Bool → List ℤ → ℕ → Spot
after_by over ends begun before count =
    if over || ends then spot_of [] no_dcs (count + 1) else spot_of begun before (count + 1)

-- the intervals from an MCU on, by whether one ends
abbrev intervals_by : Bool → Mcu → List (List Mcu) → List (List Mcu)
intervals_by ends mcu all = if ends then (mcu ∷ []) ∷ all else onto_first mcu all

-- the MCUs that are left, wherever the ones before leave off
abbrev Later : Shape → PadBits → ℕ → List Mcu → Type 0
Later shape pads count mcus =
    (begun : List Bool) (before : List ℤ) (made : List ℕ × Spot) → length begun < 8
    → mcus_put shape (bit_for pads) (spot_of begun before count) mcus ≡ Ok made
    → Whole shape pads begun before count mcus

-- an MCU and those after it
module _ (shape : Shape) (pads : PadBits) (begun bits : List Bool) (before : List ℤ) (count : ℕ)
    (mcu : Mcu) (size : length shape.slots ≡ length mcu) (few : length begun < 8)
    (text : blocks_text shape.slots before mcu ≡ Ok bits) where
  abbrev Step : Bool → Bool → List Mcu → List ℕ × Spot → Type 0
  Step over ends mcus made =
      let next =
      after_by over ends (begun_after begun bits) (dcs_after shape.slots before mcu) count in
      mcus_put shape (bit_for pads) next mcus ≡ Ok made
      → pads_with (sum_by (over || ends) shape pads begun bits count)
      (mcus_sum shape pads next mcus)
      ≡ rest_sum pads (interval_number shape count) shape.slots begun before
      (intervals_by ends mcu (intervals_after shape.interval (count + 1) mcus))

  -- the intervals after one that ends
  next_interval : (mcus : List Mcu) (made : List ℕ × Spot)
      → ends_interval shape.interval (count + 1) ≡ true → Later shape pads (count + 1) mcus
      → mcus_put shape (bit_for pads) (spot_of [] no_dcs (count + 1)) mcus ≡ Ok made
      → mcus_sum shape pads (spot_of [] no_dcs (count + 1)) mcus
      ≡ intervals_sum pads (interval_number shape count + 1)
      (pad_counts shape.slots (intervals_after shape.interval (count + 1) mcus))
  next_interval mcus made is later put =
      let all = intervals_after shape.interval (count + 1) mcus in
      later [] no_dcs made (omega arith) put
      ∙ rest_is pads (interval_number shape (count + 1)) shape.slots all
      ∙ ap (λ n. intervals_sum pads n (pad_counts shape.slots all))
      (number_next_of (shape.interval == 0) shape.interval count refl is)

  step : (over ends : Bool) (mcus : List Mcu) (made : List ℕ × Spot)
      → (over ≡ true → length mcus ≡ 0) → (over ≡ false → 0 < length mcus)
      → ends_interval shape.interval (count + 1) ≡ ends
      → Later shape pads (count + 1) mcus → Step over ends mcus made
  step true true mcus made none some is later put =
      ended shape pads begun bits before count mcu mcus few text
      (next_interval mcus made is later put)
  step false true mcus made none some is later put =
      ended shape pads begun bits before count mcu mcus few text
      (next_interval mcus made is later put)
  step true false [] made none some is later put =
      ended shape pads begun bits before count mcu [] few text refl
  step true false (next ∷ mcus) made none some is later put =
      absurd (let e = none refl in omega (arith, e))
  step false false [] made none some is later put =
      absurd (let e = some refl in omega (arith, e))
  step false false (next ∷ mcus) made none some is later put =
      let then_begun = begun_after begun bits in
      let then_before = dcs_after shape.slots before mcu in
      let left = begun_count begun bits few in
      let all = intervals_after shape.interval (count + 1) (next ∷ mcus) in
      let more = intervals_some shape.interval (count + 1) next mcus in
      later then_begun then_before made (omega (arith, left)) put
      ∙ ap (λ n. rest_sum pads n shape.slots then_begun then_before all)
      (number_same_of (shape.interval == 0) shape.interval count refl is)
      ∙ sym (rest_onto pads (interval_number shape count) shape.slots begun bits before mcu all more
      size text)

-- what is put by whether an interval ends
picked : (t : Bool) (x y : List ℕ × Spot) → (if t then x else y).1 ≡ (if t then x.1 else y.1)
picked true x y = refl
picked false x y = refl

left_after : (count n all : ℕ) → count + suc n ≡ all → (count + 1 == all) ≡ true → n ≡ 0
left_after count n all long e =
    let same = eqb-true (count + 1) all e in omega (arith, same, long)

some_left : (count n all : ℕ) → count + suc n ≡ all → (count + 1 == all) ≡ false → 0 < n
some_left count n all long e = elim (cases_eq n 0) [
  | inl z ↦ absurd
      (let f : true ≡ false = sym (eq-eqb (count + 1) all (omega (arith, z, long))) ∙ e in cc)
  | inr nz ↦ omega (arith, nz)
]

first_by : (t : Text) (shape : Shape) (pads : PadBits) (begun : List Bool) (before : List ℤ)
    (count : ℕ) (mcu : Mcu) (mcus : List Mcu) (made : List ℕ × Spot)
    → length shape.slots ≡ length mcu → count + suc (length mcus) ≡ shape.mcus → length begun < 8
    → blocks_text shape.slots before mcu ≡ t → Later shape pads (count + 1) mcus
    → (let first = put_text shape (bit_for pads) (spot_of begun before count)
    (dcs_after shape.slots before mcu) t in
    then_put first (λ s. mcus_put shape (bit_for pads) s mcus) ≡ Ok made
    → pads_with (text_sum shape pads (spot_of begun before count) t)
    (mcus_sum shape pads (spot_in first) mcus)
    ≡ rest_sum pads (interval_number shape count) shape.slots begun before
    (intervals_after shape.interval count (mcu ∷ mcus)))
first_by (Err stop) shape pads begun before count mcu mcus made size long few text later put = cc
first_by (Ok bits) shape pads begun before count mcu mcus made size long few text later put =
    let over = count + 1 == shape.mcus in
    let ends = ends_interval shape.interval (count + 1) in
    let first =
    put_text shape (bit_for pads) (spot_of begun before count) (dcs_after shape.slots before mcu)
    (Ok bits) in
    let rest = put_parts first (λ s. mcus_put shape (bit_for pads) s mcus) made.0 made.1 put in
    let next : spot_in first
    ≡ after_by over ends (begun_after begun bits) (dcs_after shape.slots before mcu) count =
    picked (over || ends) _ _ in
    let at : rest.at ≡ after_by over ends (begun_after begun bits)
    (dcs_after shape.slots before mcu) count =
    sym (ap spot_in rest.first) ∙ next in
    ap (λ (s : Spot).
    pads_with (sum_by (over || ends) shape pads begun bits count) (mcus_sum shape pads s mcus)) next
    ∙ step shape pads begun bits before count mcu size few text over ends mcus (rest.more, made.1)
    (left_after count (length mcus) shape.mcus long) (some_left count (length mcus) shape.mcus long)
    refl later (ap (λ (s : Spot). mcus_put shape (bit_for pads) s mcus) (sym at) ∙ rest.then)

sums_are : (mcus : List Mcu) (shape : Shape) (pads : PadBits) (begun : List Bool)
    (before : List ℤ) (count : ℕ) (made : List ℕ × Spot) → count + length mcus ≡ shape.mcus
    → AllByRecursion (IsMcu shape.slots) mcus → length begun < 8
    → mcus_put shape (bit_for pads) (spot_of begun before count) mcus ≡ Ok made
    → Whole shape pads begun before count mcus
unfolding mcus_put mcu_put
sums_are [] shape pads begun before count made long each few put = refl
sums_are (mcu ∷ mcus) shape pads begun before count made long each few put =
    first_by (blocks_text shape.slots before mcu) shape pads begun before count mcu mcus made
    (sym each.0.0) (omega (arith, long)) few refl
    (λ b d m less e. sums_are mcus shape pads b d (count + 1) m
    (omega (arith, long)) each.1 less e)
    put

-- the MCUs of a scan pad what its intervals come to
pub scan_sum : (shape : Shape) (pads : PadBits) (mcus : List Mcu) (made : List ℕ × Spot)
    → AreMcus shape mcus → mcus_put shape (bit_for pads) first_spot mcus ≡ Ok made
    → mcus_sum shape pads first_spot mcus
    ≡ intervals_sum pads 0 (pad_counts shape.slots (intervals_of shape mcus))
scan_sum shape pads mcus made are put =
    sums_are mcus shape pads [] no_dcs 0 made (let n = are.count in omega (arith, n)) are.each
    (omega arith) put
    ∙ ap (λ n. rest_sum pads n shape.slots [] no_dcs (intervals_of shape mcus))
    (first_number shape)
    ∙ rest_is pads 0 shape.slots (intervals_of shape mcus)
