-- Bytes in parts of some lengths.
use Rattle.std.proofs.Common.{◌≡◌, ◌<◌, ◌≤◌, ◌+◌, ℕ, zero, suc, List, [], ◌∷◌, length, drop, map, refl, ap, arith, length-drop, subst}
use Rattle.std.specs.Prelude.{sum}
use Rattle.std.specs.List.{AllByRecursion, range_with_len}
use Rattle.std.proofs.lemmas.List.{length-take-le}
use Rattle.bit_list.specs.Bits.{IsByte}
use Rattle.box_format.specs.Raws.{parted}
use Rattle.box_format.proofs.Lists.{sum_first}
use Rattle.box_format.proofs.ByteParts.{all_take, all_drop}

-- as many parts as lengths
pub parted_count : (ns xs : List ℕ) → length (parted ns xs) ≡ length ns
parted_count [] xs = refl
parted_count (n ∷ ns) xs = ap suc (parted_count ns (drop n xs))

-- of these lengths
pub parted_lengths : (ns xs : List ℕ) → sum ns ≤ length xs
    → map (λ (part : List ℕ). length part) (parted ns xs) ≡ ns
parted_lengths [] xs long = refl
parted_lengths (n ∷ ns) xs long =
    let all = sum_first n ns in
    let here = length-take-le n xs (omega arith) in
    let later = parted_lengths ns (drop n xs) (omega (arith, length-drop n xs)) in
    rw (here, later) refl

-- parts of bytes are bytes
pub parted_bytes : (ns xs : List ℕ) → AllByRecursion IsByte xs
    → AllByRecursion (AllByRecursion IsByte) (parted ns xs)
parted_bytes [] xs h = tt
parted_bytes (n ∷ ns) xs h =
    (all_take IsByte n xs h, parted_bytes ns (drop n xs) (all_drop IsByte n xs h))

-- what holds of all values at some numbers
pub all_values : {A : Type 0} (P : A → Type 0) (f : ℕ → A) (from n : ℕ)
    → ((i : ℕ) → i < n → P (f (from + i))) → AllByRecursion P (map f (range_with_len from n))
all_values P f from zero each = tt
all_values P f from (suc n) each =
    let e : from + 0 ≡ from = omega arith in
    let first : P (f from) = subst (λ k. P (f k)) e (each 0 (omega arith)) in
    let later : (i : ℕ) → i < n → P (f (from + 1 + i)) =
    λ i below.
    let k : from + suc i ≡ from + 1 + i = omega arith in
    subst (λ j. P (f j)) k (each (suc i) (omega arith)) in
    (first, all_values P f (from + 1) n later)
