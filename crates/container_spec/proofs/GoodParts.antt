-- Outputs without a fault, one after another, and a part of them.
use Rattle.std.proofs.Common.{◌≡◌, ℕ, zero, suc, ◌+◌, ◌-◌, ◌≤◌, List, [], ◌∷◌, ◌++◌, map, take, drop, None, refl, sym, ap, ap₂, ◌∙◌, arith}
use Rattle.std.proofs.lemmas.List.{take-append-drop, take-map, drop-map}
use Rattle.std.specs.List.{range_with_len}
use Rattle.handover.specs.declared.outcome.Outcome.{Outcome}
use Rattle.container_spec.specs.Segments.{Output}
use Rattle.container_spec.proofs.JoinedSegments.{joined_with, joined}
use Rattle.container_spec.proofs.ReachedSegments.{first_good}
use Rattle.byte_window.specs.PartedFiles as parted

-- ---- numbers

dropped_numbers : {A : Type 0} (f : ℕ → A) (k from count : ℕ)
    → drop k (map f (range_with_len from count)) ≡ map f (range_with_len (from + k) (count - k))
dropped_numbers f zero from count =
    let same : from ≡ from + 0 = omega arith in
    let all : count ≡ count - 0 = omega arith in
    ap₂ (λ (i n : ℕ). map f (range_with_len i n)) same all
dropped_numbers f (suc k) from zero =
    let none : 0 ≡ 0 - suc k = omega arith in
    ap (λ (n : ℕ). map f (range_with_len (from + suc k) n)) none
dropped_numbers f (suc k) from (suc count) =
    let same : (from + 1) + k ≡ from + suc k = omega arith in
    let left : count - k ≡ suc count - suc k = omega arith in
    dropped_numbers f k (from + 1) count
    ∙ ap₂ (λ (i n : ℕ). map f (range_with_len i n)) same left

taken_numbers : {A : Type 0} (f : ℕ → A) (k from count : ℕ) → k ≤ count
    → take k (map f (range_with_len from count)) ≡ map f (range_with_len from k)
taken_numbers f zero from count few = refl
taken_numbers f (suc k) from zero few = absurd (omega (arith, few))
taken_numbers f (suc k) from (suc count) few =
    ap (λ (xs : List _). f from ∷ xs) (taken_numbers f k (from + 1) count (omega (arith, few)))

-- those from one to before another are a part of all
pub numbers_between : {A : Type 0} (f : ℕ → A) (from to count : ℕ) → from ≤ to → to ≤ count
    → map f (range_with_len from (to - from)) ≡ take (to - from) (drop from (map f (range_with_len 0 count)))
numbers_between f from to count order within =
    let same : 0 + from ≡ from = omega arith in
    sym (ap (take (to - from)) (dropped_numbers f from 0 count)
    ∙ taken_numbers f (to - from) (0 + from) (count - from) (omega (arith, order, within))
    ∙ ap (λ (i : ℕ). map f (range_with_len i (to - from))) same)

-- ---- outputs without a fault

-- have none in their parts
pub record AreGood (xs ys : List Output) : Type 0 where
  pub first : (joined xs).fault ≡ None
  pub last : (joined ys).fault ≡ None

good_parts : (xs ys : List Output) → (joined (xs ++ ys)).fault ≡ None → AreGood xs ys
good_parts [] ys none = record { first = refl; last = none }
good_parts (x ∷ xs) ys none =
    let good = first_good x.0 x.1 (joined (xs ++ ys)) none in
    let rest = good_parts xs ys good.rest in record {
      first = ap (λ (o : Outcome). (joined_with x.0 o (joined xs)).fault) good.outcome ∙ rest.first;
      last = rest.last;
    }

-- have all their bytes
pub good_bytes : (outputs : List Output) → (joined outputs).fault ≡ None
    → (joined outputs).bytes ≡ parted.joined (map (λ (output : Output). output.0) outputs)
good_bytes [] none = refl
good_bytes (x ∷ xs) none =
    let good = first_good x.0 x.1 (joined xs) none in
    ap (λ (o : Outcome). (joined_with x.0 o (joined xs)).bytes) good.outcome
    ∙ ap (λ (bytes : List ℕ). x.0 ++ bytes) (good_bytes xs good.rest)

-- a part of them, by what it gives
pub record IsPart (outputs : List Output) (from count : ℕ) : Type 0 where
  pub none : (joined (take count (drop from outputs))).fault ≡ None
  pub bytes : (joined (take count (drop from outputs))).bytes
      ≡ parted.joined (take count (drop from (map (λ (output : Output). output.0) outputs)))

pub good_part : (outputs : List Output) (from count : ℕ) → (joined outputs).fault ≡ None
    → IsPart outputs from count
good_part outputs from count none =
    let fault_of = λ (xs : List Output). (joined xs).fault in
    let after = good_parts (take from outputs) (drop from outputs)
    (ap fault_of (take-append-drop from outputs) ∙ none) in
    let part = good_parts (take count (drop from outputs)) (drop count (drop from outputs))
    (ap fault_of (take-append-drop count (drop from outputs)) ∙ after.last) in
    let first = λ (output : Output). output.0 in record {
      none = part.first;
      bytes = good_bytes (take count (drop from outputs)) part.first
          ∙ ap parted.joined (sym (ap (take count) (drop-map first from outputs)
          ∙ take-map first count (drop from outputs)));
    }
