-- The plain program's steps.
use Rattle.std.proofs.Common.{◌≡◌, ℕ, zero, suc, ◌+◌, ◌-◌, ◌*◌, ◌^◌, ◌<◌, ◌≤◌, Bool, true, false, List, [], ◌∷◌, length, get_or, take, drop, refl, sym, ap, ◌∙◌, arith, inl, inr, lit≤}
use Rattle.std.specs.Int.{div_ceil, to_be_bytes, w128}
use Rattle.std.specs.List.{AllByRecursion, fold}
use Rattle.std.proofs.Math.Nat.{mul-le-mul_right, pow-suc, pow-le-pow_right}
use Rattle.std.proofs.lemmas.Bool.{lt-ltb, cases_lt}
use Rattle.std.proofs.lemmas.List.{take_more, take-append-drop}
use Rattle.std.proofs.lemmas.List.Sums.{fold-append}
use Rattle.std.proofs.lemmas.Nat.{pow_pos, pow-add}
use Rattle.bool_coder.specs.BoolStream.{Interval, opening, split, chosen, doubled, widened, after, coded, stream, stream_length, IsBool, IsOnLine}
use Rattle.bool_coder.specs.PlainLine.{IsKept}
use Rattle.bool_coder.proofs.Append.{last_bytes}
use Rattle.bool_coder.proofs.Line.{widened-wide, split_less, coded-kept, opening-kept}

-- the doublings of `start` have come to `now`, with at most so many left
pub record Widening (start now : Interval) : Type 0 where
  pub left : ℕ
  pub same : widened left now ≡ widened 7 start
  pub reaches : 128 ≤ now.range * 2 ^ left
  pub some : 0 < now.range
  pub byte : now.range ≤ 255
  pub on_line : IsOnLine now
  pub short : now.shifts + left ≤ 119

pub Widening-begins : (i : Interval) → 0 < i.range → i.range ≤ 255 → i.shifts ≤ 112 → IsOnLine i → Widening i i
Widening-begins i some byte short line = record { left = 7; same = refl; reaches = omega arith; some = some; byte = byte; on_line = line; short = omega arith }

widening-step : (start now : Interval) (left : ℕ) → widened left now ≡ widened 7 start → 128 ≤ now.range * 2 ^ left
    → 0 < now.range → IsOnLine now → now.shifts + left ≤ 119 → now.range < 128 → Widening start (doubled now)
widening-step start now zero same reaches some line short narrow = absurd (omega arith)
widening-step start now (suc left) same reaches some line short narrow =
    let least = rw pow-suc at reaches in
    let e = lt-ltb now.range 128 narrow in
    record {
      left = left;
      same = rw e at same;
      reaches = omega (arith, least);
      some = omega (arith, some);
      byte = omega arith;
      on_line = rw pow-add (omega (arith, line));
      short = omega (arith, short);
    }

pub Widening-goes_on : (start now : Interval) → Widening start now → now.range < 128 → Widening start (doubled now)
Widening-goes_on start now w narrow = widening-step start now w.left w.same w.reaches w.some w.on_line w.short narrow

pub Widening-ends : (start now : Interval) → Widening start now → 128 ≤ now.range → now ≡ widened 7 start
Widening-ends start now w wide = sym (widened-wide w.left now wide) ∙ w.same

-- what is doubled stays within 128 bits
pub Widening-fits : (start now : Interval) → Widening start now → now.bottom < 2 ^ 127
Widening-fits start now w =
    let few : now.shifts ≤ 119 = omega (arith, w.short) in
    let power : 2 ^ now.shifts ≤ 2 ^ 119 = pow-le-pow_right {n = 2} (lit≤ tt) few in
    omega (arith, w.some, w.on_line, power)

widened-grows : (n : ℕ) (i : Interval) → i.shifts ≤ (widened n i).shifts
widened-grows zero i = omega arith
widened-grows (suc n) i = elim (cases_lt i.range 128) [
  | inl narrow ↦ let e = lt-ltb i.range 128 narrow in rw e (omega (arith, widened-grows n (doubled i)))
  | inr wide ↦ let e = widened-wide (suc n) i wide in rw e (omega arith)
]

same-shifts : (i : Interval) (prob : ℕ) (bit : Bool) → (chosen i prob bit).shifts ≡ i.shifts
same-shifts i prob false = refl
same-shifts i prob true = refl

after-grows : (i : Interval) (bool : ℕ × Bool) → i.shifts ≤ (after i bool).shifts
unfolding after
after-grows i bool =
    omega (arith, same-shifts i bool.0 bool.1, widened-grows 7 (chosen i bool.0 bool.1))

pub coded-grows : (i : Interval) (bools : List (ℕ × Bool)) → i.shifts ≤ (fold after i bools).shifts
coded-grows i [] = omega arith
coded-grows i (b ∷ bools) = omega (arith, after-grows i b, coded-grows (after i b) bools)

pub prefix-short : (bools : List (ℕ × Bool)) (n k : ℕ) → (coded bools).shifts ≤ k → (coded (take n bools)).shifts ≤ k
prefix-short bools n k short =
    let e = fold-append after opening (take n bools) (drop n bools) in
    let f = take-append-drop n bools in
    let grows = coded-grows (coded (take n bools)) (drop n bools) in
    let all : fold after (coded (take n bools)) (drop n bools) ≡ coded bools = sym e ∙ ap coded f in
    omega (arith, short, grows, ap (λ (i : Interval). i.shifts) all)

all-prefix : (bools : List (ℕ × Bool)) (n : ℕ) → AllByRecursion IsBool bools → AllByRecursion IsBool (take n bools)
all-prefix bools zero all = tt
all-prefix [] (suc n) all = tt
all-prefix (b ∷ bools) (suc n) all = (all.0, all-prefix bools n all.1)

pub prefix-kept : (bools : List (ℕ × Bool)) (n : ℕ) → AllByRecursion IsBool bools → IsKept (coded (take n bools))
prefix-kept bools n all = coded-kept opening (take n bools) (all-prefix bools n all) opening-kept

pub prefix-more : (bools : List (ℕ × Bool)) (n : ℕ) (d : ℕ × Bool) → n < length bools → coded (take (n + 1) bools) ≡ after (coded (take n bools)) (get_or bools n d)
prefix-more bools n d less = ap coded (take_more bools n d less) ∙ fold-append after opening (take n bools) (get_or bools n d ∷ [])

pub plain-fits : (i : Interval) (count : ℕ) → IsKept i → i.shifts ≤ 112 → count ≡ 1 + div_ceil i.shifts 8
    → i.bottom * 2 ^ (8 * count - (8 + i.shifts)) < 2 ^ 128
plain-fits i count kept short c =
    let p : ℕ = 8 * count - (8 + i.shifts) in
    let e : i.shifts + p + 8 ≡ 8 * count = omega (arith, c) in
    let below = mul-le-mul_right (2 ^ p) kept.on_line in
    let few : i.shifts + p ≤ 120 = omega (arith, c) in
    let power : 2 ^ (i.shifts + p) ≤ 2 ^ 120 = pow-le-pow_right {n = 2} (lit≤ tt) few in
    let join = pow-add 2 i.shifts p in
    omega (arith, kept.wide, below, power, join, pow_pos p)

pub plain_bytes : (i : Interval) (count number : ℕ) (bytes : List ℕ) → count ≤ 16 → count ≡ 1 + div_ceil i.shifts 8
    → number ≡ i.bottom * 2 ^ (8 * count - (8 + i.shifts)) → bytes ≡ to_be_bytes w128 number
    → take (16 - (16 - count)) (drop (16 - count) bytes) ≡ stream i
unfolding stream
plain_bytes i count number bytes few c e f =
    let size : stream_length i.shifts ≡ count = omega (arith, c) in
    last_bytes 16 number count bytes few f ∙ rw (size, e) refl

pub plain-sum : (i : Interval) (prob : ℕ) → IsKept i → i.shifts ≤ 112 → prob < 256 → i.bottom + split i.range prob < 2 ^ 128
plain-sum i prob kept short p =
    let power : 2 ^ i.shifts ≤ 2 ^ 112 = pow-le-pow_right {n = 2} (lit≤ tt) short in
    let less = split_less i.range prob (omega (arith, kept.wide)) p in
    omega (arith, kept.on_line, less, power)
