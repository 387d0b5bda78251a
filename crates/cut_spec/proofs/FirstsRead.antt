-- The first of some MCUs that are read, put one after another.
use Rattle.std.proofs.Common.{◌≡◌, ℕ, zero, suc, ◌+◌, ◌≤◌, Bool, true, ◌==◌, List, [], ◌∷◌, ◌++◌, length, take, drop, map, ℤ, Ok, refl, sym, ap, ◌∙◌, subst, arith, length-append}
use Rattle.std.specs.List.{AllByRecursion}
use Rattle.std.proofs.lemmas.Bool.{eqb-true}
use Rattle.scan_spec.specs.Slots.{Shape}
use Rattle.scan_spec.specs.Scans.{Mcu, IsMcu}
use Rattle.scan_spec.specs.Spots.{Spot, Put, interval_number, prefixed_put, then_put, mcu_put, mcus_put}
use Rattle.scan_spec.specs.ScanReading.{Standing, mcu_at, mcus_at}
use Rattle.scan_spec.specs.BlockBits.{in_zigzag}
use Rattle.scan_spec.specs.ScanPads.{pads_told}
use Rattle.scan_spec.specs.ScanLaws.{IsShape, zigzag_of}
use Rattle.scan_spec.proofs.Intervals.{Agrees}
use Rattle.scan_spec.proofs.PadsTold.{Follows}
use Rattle.scan_spec.proofs.BitsTaken.{fine}
use Rattle.scan_spec.proofs.ScanTaken.{mcus_fine, mcus_more, no_mcus}
use Rattle.cut_spec.proofs.UnitsBegun.{AreBytes}
use Rattle.cut_spec.proofs.McuOn.{IsOn, mcu_on}
use Rattle.cut_spec.proofs.McusAfter.{mcu_after, mcus_after}
use Rattle.cut_spec.proofs.PadsFollowed.{followed}

-- the first of some MCUs are read and put, and the others stand after them
pub record Firsts (n : ℕ) (shape : Shape) (bytes : List ℕ) (pads : ℕ → Bool) (place : ℕ)
    (spot : Spot) (s : Standing) (mcus : List Mcu) (end : Standing) : Type 0 where
  pub at : Standing
  pub read : mcus_at n shape bytes s ≡ Ok (zigzag_of (take n mcus), at)
  pub text : List ℕ
  pub after : Spot
  pub put : mcus_put shape pads spot (take n mcus) ≡ Ok (text, after)
  pub on : IsOn bytes (place + length text) after at
  pub count : after.count ≡ spot.count + n
  pub rest : mcus_at (length (drop n mcus)) shape bytes at ≡ Ok (zigzag_of (drop n mcus), end)
  pub follows : Follows pads (interval_number shape at.count)
      (pads_told (length (drop n mcus)) shape bytes at)

both_lists : (a b : List (List ℤ)) (xs ys : List (List (List ℤ))) → a ∷ xs ≡ b ∷ ys
    → (a ≡ b) × (xs ≡ ys)
both_lists a b xs ys e = (cc, cc)

no_first : (shape : Shape) (pads : ℕ → Bool) (spot : Spot)
    → mcus_put shape pads spot [] ≡ Ok ([], spot)
unfolding mcus_put
no_first shape pads spot = refl

one_more : (shape : Shape) (pads : ℕ → Bool) (spot next last : Spot) (mcu : Mcu) (mcus : List Mcu)
    (text more : List ℕ) → mcu_put shape pads spot mcu ≡ Ok (text, next)
    → mcus_put shape pads next mcus ≡ Ok (more, last)
    → mcus_put shape pads spot (mcu ∷ mcus) ≡ Ok (text ++ more, last)
unfolding mcus_put
one_more shape pads spot next last mcu mcus text more e f =
    ap (λ (p : Put). then_put p (λ at. mcus_put shape pads at mcus)) e ∙ ap (prefixed_put text) f

pub on_at : (bytes : List ℕ) (place other : ℕ) (spot : Spot) (at : Standing) → place ≡ other
    → IsOn bytes place spot at → IsOn bytes other spot at
on_at bytes place other spot at same on = subst (λ (p : ℕ). IsOn bytes p spot at) same on

pub firsts : (n : ℕ) (mcus : List Mcu) (shape : Shape) (bytes : List ℕ) (pads : ℕ → Bool)
    (place after : ℕ) (spot : Spot) (s end : Standing) → IsShape shape
    → AllByRecursion (IsMcu shape.slots) mcus → n ≤ length mcus
    → AreBytes bytes place after → IsOn bytes place spot s
    → mcus_at (length mcus) shape bytes s ≡ Ok (zigzag_of mcus, end) → end.cursor.next ≤ after
    → s.count + length mcus ≤ shape.mcus
    → Follows pads (interval_number shape s.count) (pads_told (length mcus) shape bytes s)
    → Firsts n shape bytes pads place spot s mcus end
firsts zero mcus shape bytes pads place after spot s end is each few are on e within most goes = record {
  at = s;
  read = no_mcus shape bytes s;
  text = [];
  after = spot;
  put = no_first shape pads spot;
  on = on_at bytes place (place + 0) spot s (omega arith) on;
  count = omega arith;
  rest = e;
  follows = goes;
}
firsts (suc n) [] shape bytes pads place after spot s end is each few are on e within most goes =
    absurd (omega (arith, few))
firsts (suc n) (mcu ∷ mcus) shape bytes pads place after spot s end is each few are on e within most goes =
    let f = mcus_fine (length mcus) shape bytes s (zigzag_of (mcu ∷ mcus), end) e in
    let p = both_lists (map in_zigzag mcu) f.first (zigzag_of mcus) f.more f.same in
    let one : mcu_at shape bytes s ≡ Ok (map in_zigzag mcu, f.next) =
    f.one ∙ ap (λ (l : List (List ℤ)). fine (l, f.next)) (sym p.0) in
    let others : mcus_at (length mcus) shape bytes f.next ≡ Ok (zigzag_of mcus, end) =
    f.others ∙ ap (λ (l : List (List (List ℤ))). fine (l, end)) (sym p.1) in
    let skip = on.begun.skip in
    let x = mcu_after shape bytes s f.next (map in_zigzag mcu) is skip one in
    let y = mcus_after (length mcus) shape bytes f.next end (zigzag_of mcus) is x.skip others in
    let stop = y.on in
    let last : (s.count + 1 == shape.mcus) ≡ true → length mcus ≡ 0 =
    λ over. let h = eqb-true (s.count + 1) shape.mcus over in omega (arith, h, most) in
    let w = followed shape bytes pads s f.next (map in_zigzag mcu) (length mcus) one last goes in
    let known = subst (λ (k : ℕ). Agrees f.next.pad (pads (interval_number shape k)))
    (sym on.count) w.agrees in
    let counted = w.count in
    let m = mcu_on shape bytes place after spot s f.next mcu pads is each.0 are on one
    (omega (arith, stop, within)) known in
    let r = firsts n mcus shape bytes pads (place + length m.text) after m.after f.next end is
    each.1 (omega (arith, few)) (λ q l h. are q (omega (arith, l)) h) m.on others within
    (omega (arith, most, counted)) w.follows in
    let sum = length-append m.text r.text in
    let long : place + length m.text + length r.text ≡ place + length (m.text ++ r.text) =
    omega (arith, sum) in
    record {
      at = r.at;
      read = mcus_more n shape bytes s f.next r.at (map in_zigzag mcu)
          (zigzag_of (take n mcus)) one r.read;
      text = m.text ++ r.text;
      after = r.after;
      put = one_more shape pads spot m.after r.after mcu
          (take n mcus) m.text r.text m.is r.put;
      on = on_at bytes (place + length m.text + length r.text)
          (place + length (m.text ++ r.text)) r.after r.at long r.on;
      count = let c = m.count in let d = r.count in omega (arith, c, d);
      rest = r.rest;
      follows = r.follows;
    }
