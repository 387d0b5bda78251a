-- Intervals within the line of 255 parts.
use Rattle.std.proofs.Common.{◌≡◌, ℕ, zero, suc, ◌+◌, ◌-◌, ◌*◌, ◌^◌, ◌<◌, ◌≤◌, Bool, true, false, List, [], ◌∷◌, refl, sym, ap, ◌∙◌, arith, inl, inr}
use Rattle.std.specs.List.{AllByRecursion, fold}
use Rattle.std.proofs.Math.Nat.{pow-suc, mul-le-mul_right, mul-le-mul_left, pow-le-pow_right, le-mul_of_pos_right}
use Rattle.std.proofs.lemmas.Nat.{pow_pos, pow-add, leading_top, div_below}
use Rattle.std.proofs.lemmas.Bool.{lt-ltb, le-ltb, cases_lt}
use Rattle.std.proofs.Common.{lit≤}
use Rattle.bool_coder.specs.BoolStream.{Interval, opening, split, chosen, doubled, widened, after, IsBool, IsOnLine}
use Rattle.bool_coder.specs.PlainLine.{IsKept}
use lib.Count.{count_leading_zeros}

-- an interval that was shifted k times
abbrev pub shifted : ℕ → Interval → Interval
shifted k i = record { bottom = i.bottom * 2 ^ k; range = i.range * 2 ^ k; shifts = i.shifts + k }

abbrev of_parts : ℕ → ℕ → ℕ → Interval
of_parts b r s = record { bottom = b; range = r; shifts = s }

same_parts : (b c r q s t : ℕ) → b ≡ c → r ≡ q → s ≡ t → of_parts b r s ≡ of_parts c q t
same_parts b c r q s t eb er es = rw (eb, er, es) refl

pub same_interval : (i j : Interval) → i.bottom ≡ j.bottom → i.range ≡ j.range → i.shifts ≡ j.shifts → i ≡ j
same_interval i j b r s = same_parts i.bottom j.bottom i.range j.range i.shifts j.shifts b r s

-- where a range is wide enough, nothing is doubled
pub widened-wide : (n : ℕ) (i : Interval) → 128 ≤ i.range → widened n i ≡ i
widened-wide zero i h = refl
widened-wide (suc n) i h = rw (le-ltb i.range 128 h) refl

pub widened-shifted : (n k : ℕ) (i : Interval) → k ≤ n → 128 ≤ i.range * 2 ^ k → i.range * 2 ^ k ≤ 255 → widened n i ≡ shifted k i
widened-shifted n zero i small enough no_more =
    widened-wide n i (omega arith) ∙ same_interval i (shifted zero i) (omega arith) (omega arith) (omega arith)
widened-shifted zero (suc k) i small enough no_more = absurd (omega arith)
widened-shifted (suc n) (suc k) i small enough no_more =
    let more : i.range ≤ i.range * 2 ^ k = le-mul_of_pos_right i.range (pow_pos k) in
    let least : 128 ≤ i.range * (2 ^ k * 2) = rw pow-suc at enough in
    let most : i.range * (2 ^ k * 2) ≤ 255 = rw pow-suc at no_more in
    let narrow : i.range < 128 = omega arith in
    let rest = widened-shifted n k (doubled i) (omega arith) (omega arith) (omega arith) in
    rw (lt-ltb i.range 128 narrow) (rest ∙ same_interval (shifted k (doubled i)) (shifted (suc k) i) (rw pow-suc (omega arith)) (rw pow-suc (omega arith)) (omega arith))

-- how often a range is doubled, and what `leading_zeros` has to do with it
pub record Doublings (range k : ℕ) : Type 0 where
  pub few : k ≤ 7
  pub enough : 128 ≤ range * 2 ^ k
  pub no_more : range * 2 ^ k ≤ 255

doublings_at : (range j : ℕ) → range ≤ 255 → 2 ^ j ≤ range → range < 2 ^ suc j → (k : ℕ) × (suc j + k ≡ 8) × Doublings range k
doublings_at range j high least most =
    elim (cases_lt j 8) [
      | inl few ↦
          let k : ℕ = 7 - j in
          let total : j + k ≡ 7 = omega arith in
          let power : 2 ^ j * 2 ^ k ≡ 128 = sym (pow-add 2 j k) ∙ ap (λ n. 2 ^ n) total in
          let low : 2 ^ j * 2 ^ k ≤ range * 2 ^ k = mul-le-mul_right (2 ^ k) least in
          let high : suc range * 2 ^ k ≤ 2 ^ j * 2 * 2 ^ k = rw (← pow-suc 2 j) (mul-le-mul_right (2 ^ k) most) in
          (k, omega arith, record { few = omega arith; enough = omega arith; no_more = omega (arith, pow_pos k) })
      | inr many ↦ absurd (omega (arith, pow-le-pow_right {n = 2} (lit≤ tt) many))
    ]

pub doublings_are : (range : ℕ) → 0 < range → range ≤ 255 → (k : ℕ) × (count_leading_zeros 32 range ≡ k + 24) × Doublings range k
doublings_are range some high =
    let top = leading_top 32 range some (omega arith) in
    let at = doublings_at range top.0 high top.2 top.3 in
    (at.0, omega (arith, top.1, at.1), at.2)

-- the part that a bool keeps
pub record Part (i j : Interval) : Type 0 where
  pub some : 0 < j.range
  pub less : j.range < i.range
  pub top : j.bottom + j.range ≤ i.bottom + i.range
  pub same : j.shifts ≡ i.shifts

mul_below : (r p : ℕ) → 0 < r → p < 256 → r * p < r * 256
mul_below r p some h = let m : r * suc p ≤ r * 256 = mul-le-mul_left r h in omega arith

pub split_less : (range prob : ℕ) → 1 < range → prob < 256 → split range prob < range
split_less range prob h p =
    let m : (range - 1) * prob < (range - 1) * 256 = mul_below (range - 1) prob (omega arith) p in
    let d = div_below ((range - 1) * prob) 256 (range - 1) (omega arith) m in
    omega (arith, d)

pub chosen-part : (i : Interval) (prob : ℕ) (bit : Bool) → 1 < i.range → prob < 256 → Part i (chosen i prob bit)
chosen-part i prob false h p =
    let s = split_less i.range prob h p in
    record { some = omega arith; less = omega (arith, s); top = omega (arith, s); same = refl }
chosen-part i prob true h p =
    let s = split_less i.range prob h p in
    record { some = omega (arith, s); less = omega (arith, s); top = omega (arith, s); same = refl }

pub after_is : (i : Interval) (prob k : ℕ) (bit : Bool) → Doublings (chosen i prob bit).range k → after i (prob, bit) ≡ shifted k (chosen i prob bit)
unfolding after
after_is i prob k bit d = widened-shifted 7 k (chosen i prob bit) d.few d.enough d.no_more

pub shifted-line : (i j : Interval) (k : ℕ) → Part i j → IsOnLine i → IsOnLine (shifted k j)
shifted-line i j k part line =
    let below : j.bottom + j.range ≤ 255 * 2 ^ i.shifts = omega (arith, part.top) in
    let more = mul-le-mul_right (2 ^ k) below in
    rw (part.same, pow-add) (omega (arith, more))

pub after-kept : (i : Interval) (prob : ℕ) (bit : Bool) → prob < 256 → IsKept i → IsKept (after i (prob, bit))
after-kept i prob bit p kept =
    let part = chosen-part i prob bit (omega (arith, kept.wide)) p in
    let (k, _, d) = doublings_are (chosen i prob bit).range part.some (omega (arith, part.less, kept.byte)) in
    rw (after_is i prob k bit d) (record { wide = d.enough; byte = d.no_more; on_line = shifted-line i (chosen i prob bit) k part kept.on_line })

pub coded-kept : (i : Interval) (bools : List (ℕ × Bool)) → AllByRecursion IsBool bools → IsKept i → IsKept (fold after i bools)
coded-kept i [] all kept = kept
coded-kept i (b ∷ bools) all kept = coded-kept (after i b) bools all.1 (after-kept i b.0 b.1 all.0.1 kept)

pub opening-kept : IsKept opening
opening-kept = record { wide = lit≤ tt; byte = lit≤ tt; on_line = lit≤ tt }

pub zeros_are : (range : ℕ) → 0 < range → range ≤ 255 → (24 ≤ count_leading_zeros 32 range) × Doublings range (count_leading_zeros 32 range - 24)
zeros_are range some high =
    let d = doublings_are range some high in
    let e : count_leading_zeros 32 range - 24 ≡ d.0 = omega (arith, d.1) in
    (omega (arith, d.1), rw e d.2)
