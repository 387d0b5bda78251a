-- MCUs that were put in parts.
use Rattle.std.proofs.Common.{◌≡◌, ℕ, List, [], ◌∷◌, ◌++◌, Ok, Err, refl, sym, ap, ◌∙◌}
use Rattle.scan_spec.specs.Blocks.{blocks_text}
use Rattle.scan_spec.specs.Pads.{PadBits, bit_for, text_sum}
use Rattle.scan_spec.specs.Scans.{Mcu}
use Rattle.scan_spec.specs.Slots.{Shape}
use Rattle.scan_spec.specs.Spots.{Spot, Put, prefixed_put, then_put, mcu_put, mcus_put, spot_in}
use Rattle.handover.specs.PadSums.{pads_with}
use Rattle.handover.proofs.PadsSummed.{sums_more}
use Rattle.cut_spec.proofs.Slices.{InParts}
use Rattle.container_spec.specs.SegmentLaws.{mcus_sum}

abbrev pub bytes_in : Put → List ℕ
bytes_in (Ok made) = made.0
bytes_in (Err stop) = []

-- what was put after something was put
pub put_parts : (p : Put) (f : Spot → Put) (bytes : List ℕ) (end : Spot)
    → then_put p f ≡ Ok (bytes, end) → InParts p f bytes end
put_parts (Err stop) f bytes end h = absurd (let none : Err stop ≡ Ok (bytes, end) = h in cc)
put_parts (Ok x) f bytes end h = inner (f x.1) refl h where
  inner : (q : Put) → f x.1 ≡ q → prefixed_put x.0 q ≡ Ok (bytes, end)
      → InParts (Ok x) f bytes end
  inner (Err stop) e h = absurd (let none : Err stop ≡ Ok (bytes, end) = h in cc)
  inner (Ok y) e h = record {
    before = x.0;
    at = x.1;
    more = y.0;
    first = refl;
    then = e ∙ ap (λ (s : Spot). Ok (y.0, s)) (ap spot_in h);
    joined = sym (ap bytes_in h);
  }

-- what was padded, in two parts
pub sums_parts : (xs ys : List Mcu) (shape : Shape) (pads : PadBits) (spot end : Spot)
    (bytes : List ℕ) → mcus_put shape (bit_for pads) spot xs ≡ Ok (bytes, end)
    → mcus_sum shape pads spot (xs ++ ys)
    ≡ pads_with (mcus_sum shape pads spot xs) (mcus_sum shape pads end ys)
unfolding mcus_put
sums_parts [] ys shape pads spot end bytes put =
    ap (λ (s : Spot). mcus_sum shape pads s ys) (ap spot_in put)
sums_parts (x ∷ xs) ys shape pads spot end bytes put =
    let p =
    put_parts (mcu_put shape (bit_for pads) spot x)
    (λ next. mcus_put shape (bit_for pads) next xs) bytes end put in
    let here = text_sum shape pads spot (blocks_text shape.slots spot.before x) in
    let next = spot_in (mcu_put shape (bit_for pads) spot x) in
    let at : p.at ≡ next = sym (ap spot_in p.first) in
    let then : mcus_put shape (bit_for pads) next xs ≡ Ok (p.more, end) =
    ap (λ (s : Spot). mcus_put shape (bit_for pads) s xs) (sym at) ∙ p.then in
    ap (pads_with here) (sums_parts xs ys shape pads next end p.more then)
    ∙ sym (sums_more here (mcus_sum shape pads next xs) (mcus_sum shape pads end ys))
