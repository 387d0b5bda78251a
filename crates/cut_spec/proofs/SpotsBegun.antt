-- Spots between two MCUs, their handovers, and cuts at rows.
use Rattle.std.proofs.Common.{◌≡◌, ℕ, ◌+◌, ◌-◌, ◌*◌, ◌/◌, ◌%◌, ◌<◌, ◌≤◌, Bool, true, false, if◌then◌else◌, List, [], ◌∷◌, ◌++◌, length, take, Ok, Err, refl, sym, ap, ap₂, subst, ◌∙◌, arith, ℤ, replicate, add-zero}
use Rattle.std.proofs.lemmas.List.{length-append, length-replicate}
use Rattle.std.proofs.Math.Seq.{take-append_seam}
use Rattle.std.proofs.Math.Nat.{zero-div, zero-mul, mul-zero, mul-div_cancel_left, mul-le-mul_left, le-div_iff_mul-le, div-mul-le_self, mod-lt}
use Rattle.bit_list.specs.Bits.{low_bits, number_of, begun_after}
use Rattle.bit_list.proofs.LowBits.{bits_again}
use Rattle.bit_list.proofs.Wholes.{begun_count}
use Rattle.scan_spec.specs.BlockBits.{Text}
use Rattle.scan_spec.specs.Blocks.{blocks_text, dcs_after}
use Rattle.scan_spec.specs.Slots.{Shape}
use Rattle.scan_spec.specs.Scans.{Mcu}
use Rattle.scan_spec.specs.Spots.{Spot, Put, is_closed, put_bits, put_text, mcu_put, prefixed_put, then_put, mcus_put, spot_in}
use Rattle.cut_spec.specs.Cuts.{row_of}
use Rattle.cut_spec.specs.RowHandovers.{partial_byte}
use Rattle.cut_spec.specs.Seams.{HandoverIsSpot, SpotsAreBegun, RowsAreCuts, EachHasRows}

begun_again : (bits : List Bool) → length bits ≤ 7 → take (length bits) (low_bits 8 (partial_byte bits)) ≡ bits
begun_again bits few =
    let zeros : List Bool = replicate (8 - length bits) false in
    let eight : length (bits ++ zeros) ≡ 8 = length-append bits zeros ∙ ap (λ (n : ℕ). length bits + n) (length-replicate (8 - length bits) false) ∙ (let e : length bits + (8 - length bits) ≡ 8 = omega (arith, few) in e) in
    ap (λ (n : ℕ). take (length bits) (low_bits n (number_of (bits ++ zeros)))) (sym eight) ∙ ap (take (length bits)) (bits_again (bits ++ zeros)) ∙ take-append_seam bits zeros

pub handover_is_spot : HandoverIsSpot
handover_is_spot shape spot few = ap (λ (b : List Bool). record { begun = b; before = spot.before; count = spot.count }) (begun_again spot.begun (omega arith))

-- ---- begun bits

few_in : (t : Bool) (a b : List ℕ × Spot) → length a.1.begun ≤ 7 → length b.1.begun ≤ 7 → length ((if t then a else b).1.begun) ≤ 7
few_in true a b h k = h
few_in false a b h k = k

few_bits : (shape : Shape) (pads : ℕ → Bool) (spot : Spot) (before : List ℤ) (bits : List Bool) → length spot.begun ≤ 7 → length ((put_bits shape pads spot before bits).1.begun) ≤ 7
few_bits shape pads spot before bits few =
    let counted : length (begun_after spot.begun bits) ≡ (length spot.begun + length bits) % 8 = begun_count spot.begun bits (omega (arith, few)) in
    let below : (length spot.begun + length bits) % 8 < 8 = mod-lt (length spot.begun + length bits) (let e : 0 < 8 = omega arith in e) in
    few_in (is_closed shape (spot.count + 1)) (_, record { begun = []; before = _; count = _ }) (_, record { begun = begun_after spot.begun bits; before = _; count = _ }) (omega arith) (omega (arith, counted, below))

few_text : (shape : Shape) (pads : ℕ → Bool) (spot : Spot) (before : List ℤ) (text : Text) → length spot.begun ≤ 7 → length (spot_in (put_text shape pads spot before text)).begun ≤ 7
few_text shape pads spot before (Ok bits) few = few_bits shape pads spot before bits few
few_text shape pads spot before (Err stop) few = omega arith

few_mcu : (shape : Shape) (pads : ℕ → Bool) (spot : Spot) (mcu : Mcu) → length spot.begun ≤ 7 → length (spot_in (mcu_put shape pads spot mcu)).begun ≤ 7
unfolding mcu_put
few_mcu shape pads spot mcu few = few_text shape pads spot (dcs_after shape.slots spot.before mcu) (blocks_text shape.slots spot.before mcu) few

few_then : (p : Put) (f : Spot → Put) → length (spot_in p).begun ≤ 7 → ((s : Spot) → length s.begun ≤ 7 → length (spot_in (f s)).begun ≤ 7) → length (spot_in (then_put p f)).begun ≤ 7
few_then (Err stop) f h k = omega arith
few_then (Ok x) f h k = inner (f x.1) (k x.1 h) where
  inner : (q : Put) → length (spot_in q).begun ≤ 7 → length (spot_in (prefixed_put x.0 q)).begun ≤ 7
  inner (Ok y) h = h
  inner (Err stop) h = omega arith

few_put : (shape : Shape) (pads : ℕ → Bool) (mcus : List Mcu) (spot : Spot) → length spot.begun ≤ 7 → length (spot_in (mcus_put shape pads spot mcus)).begun ≤ 7
unfolding mcus_put
few_put shape pads [] spot few = few
few_put shape pads (mcu ∷ mcus) spot few = few_then (mcu_put shape pads spot mcu) (λ next. mcus_put shape pads next mcus) (few_mcu shape pads spot mcu few) (λ s h. few_put shape pads mcus s h)

-- ---- counts

one_more : (t : Bool) (a b : List ℕ × Spot) (n : ℕ) → a.1.count ≡ n → b.1.count ≡ n → (if t then a else b).1.count ≡ n
one_more true a b n h k = h
one_more false a b n h k = k

count_text : (shape : Shape) (pads : ℕ → Bool) (spot : Spot) (before : List ℤ) (text : Text) (made : List ℕ × Spot)
    → put_text shape pads spot before text ≡ Ok made → made.1.count ≡ spot.count + 1
count_text shape pads spot before (Ok bits) made e =
    let same : put_bits shape pads spot before bits ≡ made = cc in
    ap (λ (m : List ℕ × Spot). m.1.count) (sym same) ∙ one_more (is_closed shape (spot.count + 1)) _ _ (spot.count + 1) refl refl
count_text shape pads spot before (Err stop) made e = absurd (let f : Err stop ≡ Ok made = e in cc)

count_mcu : (shape : Shape) (pads : ℕ → Bool) (spot : Spot) (mcu : Mcu) (made : List ℕ × Spot)
    → mcu_put shape pads spot mcu ≡ Ok made → made.1.count ≡ spot.count + 1
unfolding mcu_put
count_mcu shape pads spot mcu made e = count_text shape pads spot (dcs_after shape.slots spot.before mcu) (blocks_text shape.slots spot.before mcu) made e

count_then : (p : Put) (f : Spot → Put) (bytes : List ℕ) (to : Spot) (n more : ℕ) → then_put p f ≡ Ok (bytes, to)
    → ((made : List ℕ × Spot) → p ≡ Ok made → made.1.count ≡ n)
    → ((s : Spot) (b : List ℕ) (t : Spot) → f s ≡ Ok (b, t) → t.count ≡ s.count + more)
    → to.count ≡ n + more
count_then (Err stop) f bytes to n more e first rest = absurd (let g : Err stop ≡ Ok (bytes, to) = e in cc)
count_then (Ok x) f bytes to n more e first rest = inner (f x.1) refl e where
  inner : (q : Put) → f x.1 ≡ q → prefixed_put x.0 q ≡ Ok (bytes, to) → to.count ≡ n + more
  inner (Err stop) g e = absurd (let k : Err stop ≡ Ok (bytes, to) = e in cc)
  inner (Ok y) g e =
      let same : y.1 ≡ to = ap spot_in e in
      ap (λ (s : Spot). s.count) (sym same) ∙ rest x.1 y.0 y.1 g ∙ ap (λ (k : ℕ). k + more) (first x refl)

count_put : (shape : Shape) (pads : ℕ → Bool) (mcus : List Mcu) (from : Spot) (bytes : List ℕ) (to : Spot)
    → mcus_put shape pads from mcus ≡ Ok (bytes, to) → to.count ≡ from.count + length mcus
unfolding mcus_put
count_put shape pads [] from bytes to e =
    let same : from ≡ to = ap spot_in e in ap (λ (s : Spot). s.count) (sym same) ∙ sym (add-zero from.count)
count_put shape pads (mcu ∷ mcus) from bytes to e =
    let c = count_then (mcu_put shape pads from mcu) (λ next. mcus_put shape pads next mcus) bytes to (from.count + 1) (length mcus) e
    (λ made h. count_mcu shape pads from mcu made h) (λ s b t h. count_put shape pads mcus s b t h) in omega arith

pub spots_are_begun : SpotsAreBegun
spots_are_begun shape pads mcus from to bytes h is =
    let few : length to.begun ≤ 7 =
    subst (λ (p : Put). length (spot_in p).begun ≤ 7) is (few_put shape pads mcus from (omega arith)) in
    (omega arith, count_put shape pads mcus from bytes to is)

-- ---- rows

rows_rise : (i height segments : ℕ) → 0 < segments → i * height / segments ≤ (i + 1) * height / segments
rows_rise i height segments some =
    let a = div-mul-le_self (i * height) segments in
    let b : (i + 1) * height ≡ i * height + height = omega arith in
    (le-div_iff_mul-le {k = segments} {x = i * height / segments} {y = (i + 1) * height} some).1 (omega (arith, a, b))

pub rows : RowsAreCuts
rows cut from some =
    let low : row_of cut 0 ≡ 0 = ap₂ (λ (a b : ℕ). a + b) from (ap (λ (n : ℕ). n / cut.segments) (zero-mul (cut.to - cut.from)) ∙ zero-div cut.segments) in
    let high : row_of cut cut.segments ≡ cut.to = ap₂ (λ (a b : ℕ). a + b) from (mul-div_cancel_left (cut.to - cut.from) some) ∙ (let e : 0 + (cut.to - cut.from) ≡ cut.to = omega (arith, from) in e) in (
      ap (λ (n : ℕ). cut.across * n) low ∙ mul-zero cut.across,
      ap (λ (n : ℕ). cut.across * n) high,
      λ i under. mul-le-mul_left cut.across (let r = rows_rise i (cut.to - cut.from) cut.segments some in let e : row_of cut i ≤ row_of cut (i + 1) = omega (arith, r) in e),
    )

row_more : (i height segments : ℕ) → 0 < segments → segments ≤ height → i * height / segments < (i + 1) * height / segments
row_more i height segments some fits =
    let a = div-mul-le_self (i * height) segments in
    let b : (i + 1) * height ≡ i * height + height = omega arith in
    let c : (i * height / segments + 1) * segments ≤ (i + 1) * height = omega (arith, a, b) in
    let d : i * height / segments + 1 ≤ (i + 1) * height / segments =
    (le-div_iff_mul-le {k = segments} {x = i * height / segments + 1} {y = (i + 1) * height} some).1 c in
    omega (arith, d)

pub each_has_rows : EachHasRows
each_has_rows cut i from fits under wide =
    let tall : cut.to - cut.from ≡ cut.to = omega arith in
    let some : 0 < cut.segments = omega arith in
    let more = row_more i (cut.to - cut.from) cut.segments some (omega arith) in
    let rises : row_of cut i + 1 ≤ row_of cut (i + 1) = omega (arith, more) in
    let product : cut.across * (row_of cut i + 1) ≤ cut.across * row_of cut (i + 1) = mul-le-mul_left cut.across rises in
    let split : cut.across * (row_of cut i + 1) ≡ cut.across * row_of cut i + cut.across = omega arith in
    omega (arith, product, split, wide)
