-- One bool more, as contracts see a decoder.
use Rattle.std.proofs.Common.{◌≡◌, ℕ, ◌+◌, ◌-◌, ◌*◌, ◌%◌, ◌^◌, ◌<◌, ◌≤◌, min, Bool, true, false, List, [], ◌∷◌, ◌++◌, map, length, refl, sym, ap, ◌∙◌, arith, inl, inr}
use Rattle.std.specs.List.{AllByRecursion, fold}
use Rattle.std.proofs.Math.Nat.{mul-le-mul_right, min-eq_left, min-eq_right}
use Rattle.std.proofs.lemmas.Bool.{cases_lt, leb-true}
use Rattle.std.proofs.lemmas.List.Sums.{fold-append}
use Rattle.bool_coder.specs.BoolStream.{Interval, opening, split, chosen, after, coded, IsBool}
use Rattle.bool_coder.specs.BoolReading.{first_bits, next_bit, reading}
use Rattle.bool_coder.specs.DecoderSeen.{Seen, end_position, seen_bit, seen_after, Reads}
use Rattle.bool_coder.proofs.FirstBits.{prefix_more, prefix_at_position}
use Rattle.bool_coder.proofs.Line.{shifted, Doublings, doublings_are, chosen-part, after_is, coded-kept, opening-kept}

-- a decoder's range and position, as an interval that begins at zero
abbrev pub from_zero : Seen → Interval
from_zero seen = record { bottom = 0; range = seen.range; shifts = seen.position }

-- what a decoder sees after a bool whose part is doubled k times
abbrev pub seen_by : Seen → ℕ → Bool → ℕ → Seen
seen_by seen prob bit k =
    record {
      bytes = seen.bytes;
      offset = seen.offset * 2 ^ k + first_bits seen.bytes (8 + (seen.position + k)) % 2 ^ k - (chosen (from_zero seen) prob bit).bottom * 2 ^ k;
      range = (chosen (from_zero seen) prob bit).range * 2 ^ k;
      position = min (seen.position + k) (end_position seen.bytes);
    }

after_from : (seen : Seen) (prob k : ℕ) (bit : Bool) → Doublings (chosen (from_zero seen) prob bit).range k
    → after (from_zero seen) (prob, bit) ≡ record { bottom = (chosen (from_zero seen) prob bit).bottom * 2 ^ k; range = (chosen (from_zero seen) prob bit).range * 2 ^ k; shifts = seen.position + k }
after_from seen prob k false d = after_is (from_zero seen) prob k false d
after_from seen prob k true d = after_is (from_zero seen) prob k true d

pub seen_after_is : (seen : Seen) (prob k : ℕ) (bit : Bool) → seen_bit seen prob ≡ bit → Doublings (chosen (from_zero seen) prob bit).range k
    → seen_after seen prob ≡ seen_by seen prob bit k
unfolding seen_after
seen_after_is seen prob k bit e d =
    let more : seen.position + k - seen.position ≡ k = omega arith in
    rw (e, after_from seen prob k bit d, more) refl

-- the bools of a longer list
pub reading_push : (bytes : List ℕ) (i : Interval) (bools : List (ℕ × Bool)) (prob : ℕ) (bit : Bool)
    → reading bytes i (map (λ (b : ℕ × Bool). b.0) bools) ≡ map (λ (b : ℕ × Bool). b.1) bools
    → next_bit bytes (fold after i bools) prob ≡ bit
    → reading bytes i (map (λ (b : ℕ × Bool). b.0) (bools ++ (prob, bit) ∷ [])) ≡ map (λ (b : ℕ × Bool). b.1) (bools ++ (prob, bit) ∷ [])
reading_push bytes i [] prob bit given next = rw next refl
reading_push bytes i (b ∷ bools) prob bit given next =
    let same : next_bit bytes i b.0 ≡ b.1 = cc in
    let rest : reading bytes (after i (b.0, next_bit bytes i b.0)) (map (λ (b : ℕ × Bool). b.0) bools) ≡ map (λ (b : ℕ × Bool). b.1) bools = cc in
    let more = reading_push bytes (after i b) bools prob bit (rw same at rest) next in
    rw same (ap (λ bits. b.1 ∷ bits) more)

all_push : (bools : List (ℕ × Bool)) (b : ℕ × Bool) → AllByRecursion IsBool bools → IsBool b → AllByRecursion IsBool (bools ++ b ∷ [])
all_push [] b all one = (one, tt)
all_push (x ∷ bools) b all one = (all.0, all_push bools b all.1 one)

pub min_more : (s k p end : ℕ) → p ≡ min s end → min (p + k) end ≡ min (s + k) end
min_more s k p end e = elim (cases_lt s end) [
  | inl less ↦ let few : s ≤ end = omega arith in let f : min s end ≡ s = min-eq_left few in rw (e, f) refl
  | inr more ↦
      let f : min s end ≡ end = min-eq_right more in
      let past : end ≤ p + k = omega (arith, e, f) in
      let far : end ≤ s + k = omega arith in
      min-eq_right past ∙ sym (min-eq_right far)
]

-- the bottom and the offset, doubled k times
bottom_more : (b o f k x y c : ℕ) → b + o ≡ f → y ≡ f * 2 ^ k + x → c ≤ o → (b + c) * 2 ^ k + (o * 2 ^ k + x - c * 2 ^ k) ≡ y
bottom_more b o f k x y c e g h =
    let m = mul-le-mul_right (2 ^ k) h in
    let p : (b + o) * 2 ^ k ≡ f * 2 ^ k = ap (λ n. n * 2 ^ k) e in
    omega (arith, g, m, p)

chosen_from : (seen : Seen) (i : Interval) (prob : ℕ) (bit : Bool) → seen.range ≡ i.range
    → ((chosen (from_zero seen) prob bit).range ≡ (chosen i prob bit).range) × ((chosen i prob bit).bottom ≡ i.bottom + (chosen (from_zero seen) prob bit).bottom)
chosen_from seen i prob false e = rw e (refl, omega arith)
chosen_from seen i prob true e = rw e (refl, omega arith)

pub chosen_offset : (seen : Seen) (prob : ℕ) (bit : Bool) → seen_bit seen prob ≡ bit → (chosen (from_zero seen) prob bit).bottom ≤ seen.offset
chosen_offset seen prob false e = omega arith
chosen_offset seen prob true e = omega (arith, leb-true (split seen.range prob) seen.offset e)

pub Reads-next : (bools : List (ℕ × Bool)) (seen : Seen) (prob : ℕ) → Reads bools seen → seen_bit seen prob ≡ next_bit seen.bytes (coded bools) prob
Reads-next bools seen prob r =
    let e : first_bits seen.bytes (8 + (coded bools).shifts) - (coded bools).bottom ≡ seen.offset = omega (arith, r.bottom) in
    rw (r.range, e) refl

pub Reads-more : (bools : List (ℕ × Bool)) (seen : Seen) (prob : ℕ) (bit : Bool) → 0 < prob → prob < 256 → 0 < length seen.bytes
    → Reads bools seen → bit ≡ seen_bit seen prob → Reads (bools ++ (prob, bit) ∷ []) (seen_after seen prob)
Reads-more bools seen prob bit some small begun r e =
    let i = coded bools in
    let kept = coded-kept opening bools r.probs opening-kept in
    let part = chosen-part i prob bit (omega (arith, kept.wide)) small in
    let (k, _, d) = doublings_are (chosen i prob bit).range part.some (omega (arith, part.less, kept.byte)) in
    let same = chosen_from seen i prob bit r.range in
    let range = same.0 in
    let shown = seen_after_is seen prob k bit (sym e) (rw range d) in
    let left : coded (bools ++ (prob, bit) ∷ []) ≡ shifted k (chosen i prob bit) = fold-append after opening bools ((prob, bit) ∷ []) ∙ after_is i prob k bit d in
    let position : first_bits seen.bytes (8 + (i.shifts + k)) % 2 ^ k ≡ first_bits seen.bytes (8 + (seen.position + k)) % 2 ^ k = rw r.position (prefix_at_position seen.bytes i.shifts k begun) in
    let more : first_bits seen.bytes (8 + (i.shifts + k)) ≡ first_bits seen.bytes (8 + i.shifts) * 2 ^ k + first_bits seen.bytes (8 + (i.shifts + k)) % 2 ^ k =
    let f : 8 + (i.shifts + k) ≡ 8 + i.shifts + k = omega arith in rw f (prefix_more seen.bytes (8 + i.shifts) k) in
    let whole = bottom_more i.bottom seen.offset (first_bits seen.bytes (8 + i.shifts)) k _ (first_bits seen.bytes (8 + (i.shifts + k))) (chosen (from_zero seen) prob bit).bottom r.bottom more (chosen_offset seen prob bit (sym e)) in
    rw shown (record {
      given = reading_push seen.bytes opening bools prob bit r.given (sym (Reads-next bools seen prob r) ∙ sym e);
      range = rw left (ap (λ n. n * 2 ^ k) range);
      bottom = rw (left, part.same, same.1, ← position) whole;
      position = rw (left, part.same) (min_more i.shifts k seen.position (end_position seen.bytes) r.position);
      probs = all_push bools (prob, bit) r.probs (omega arith, small);
    })
