-- Numbers, counts and categories are spelled by their events.
use Rattle.std.proofs.Common.{◌≡◌, ℕ, zero, suc, ◌+◌, ◌*◌, ◌-◌, ◌/◌, ◌%◌, ◌^◌, ◌<◌, ◌≤◌, Bool, true, false, [], ◌∷◌, ◌++◌, refl, sym, ap, ap₂, ◌∙◌, arith, append-nil}
use Rattle.std.specs.Prelude.{◌==◌, nat_lt, if◌then◌else◌}
use Rattle.std.proofs.Math.Nat.{div-div-eq-div-mul}
use Rattle.std.proofs.lemmas.Bool.Decides.{nat_tests}
use Rattle.std.proofs.lemmas.Nat.{pow-add, pow_pos, div-add-mod', mod_below}
use Rattle.block_spec.specs.BitEvents.{bits_events}
use Rattle.block_spec.specs.Values.{count_events, step_events}
use Rattle.block_spec.specs.Asking.{Told}
use Rattle.block_spec.specs.AskedBlocks.{asked_number, asked_count, asked_category}
use Rattle.block_spec.proofs.Spelling.{Events, Spells, parted, told_last}

same_event : (e : ℕ × Bool) (bin : ℕ) (bit : Bool) → e.0 ≡ bin → e.1 ≡ bit → e ≡ (bin, bit)
same_event e bin bit p q = ap₂ (λ (n : ℕ) (b : Bool). (n, b)) p q

halves : (n count : ℕ) → n / 2 / 2 ^ count ≡ n / 2 ^ suc count
halves n count =
    let s : suc count ≡ 1 + count = omega arith in
    div-div-eq-div-mul n 2 (2 ^ count)
    ∙ ap (λ (k : ℕ). n / k) (sym (ap (λ (k : ℕ). 2 ^ k) s ∙ pow-add 2 1 count))

half_last : (n count : ℕ) → n / 2 ^ suc count ≡ n / 2 ^ count / 2
half_last n count =
    let s : suc count ≡ count + 1 = omega arith in
    ap (λ (k : ℕ). n / k) (ap (λ (k : ℕ). 2 ^ k) s ∙ pow-add 2 count 1)
    ∙ sym (div-div-eq-div-mul n (2 ^ count) 2)

-- the bits of a number from its highest on
bits_from_top : (bin : ℕ → ℕ → ℕ) (from count n : ℕ) → bits_events bin from (suc count) n
    ≡ (bin (from + count) (n / 2 ^ suc count), (n / 2 ^ count) % 2 == 1)
    ∷ bits_events bin from count n
bits_from_top bin from zero n =
    let e : from ≡ from + 0 = omega arith in
    let f : n ≡ n / 2 ^ 0 = omega arith in
    ap₂ (λ (k m : ℕ). (bin k (n / 2), m % 2 == 1) ∷ []) e f
bits_from_top bin from (suc count) n =
    let e : from + 1 + count ≡ from + suc count = omega arith in
    let last : Events = (bin from (n / 2), n % 2 == 1) ∷ [] in
    let rest : Events = bits_events bin from (suc count) n in
    ap (λ (es : Events). es ++ last) (bits_from_top bin (from + 1) count (n / 2))
    ∙ ap₂ (λ (k m : ℕ). (bin k m, (n / 2 / 2 ^ count) % 2 == 1) ∷ rest) e (halves n (suc count))
    ∙ ap (λ (m : ℕ). (bin (from + suc count) (n / 2 ^ suc (suc count)), m % 2 == 1) ∷ rest)
    (halves n count)

abbrev as_number : Bool → ℕ
as_number bit = if bit then 1 else 0

above_of : (n above : ℕ) (bit : Bool) → n ≡ 2 * above + as_number bit
    → (n / 2 ≡ above) × ((n % 2 == 1) ≡ bit)
above_of n above true e = (omega (arith, e), let o : n % 2 ≡ 1 = omega (arith, e) in rw o refl)
above_of n above false e = (omega (arith, e), let o : n % 2 ≡ 0 = omega (arith, e) in rw o refl)

-- a number by its bits, with those above them
pub number_spelled : (bin : ℕ → ℕ → ℕ) (count above n : ℕ) (events : Events)
    → Spells (asked_number bin count above) events n
    → (events ≡ bits_events bin 0 count n) × (n / 2 ^ count ≡ above)
unfolding asked_number
number_spelled bin zero above n events s =
    let last = told_last above n events s in
    let one : n / 2 ^ 0 ≡ n = omega arith in
    (last.0, one ∙ sym last.1)
number_spelled bin (suc count) above n [] s = absurd s
number_spelled bin (suc count) above n (e ∷ events) s =
    let rest = number_spelled bin count (2 * above + as_number e.1) n events s.1 in
    let bit = above_of (n / 2 ^ count) above e.1 rest.1 in
    let top : n / 2 ^ suc count ≡ above = half_last n count ∙ bit.0 in
    let index : count ≡ 0 + count = omega arith in
    let here : e ≡ (bin (0 + count) (n / 2 ^ suc count), (n / 2 ^ count) % 2 == 1) =
    same_event e _ _ (s.0 ∙ ap₂ bin index (sym top)) (sym bit.1) in (
      ap₂ (λ (x : ℕ × Bool) (xs : Events). x ∷ xs) here rest.0 ∙ sym (bits_from_top bin 0 count n),
      top,
    )

above_one : (m p : ℕ) → 0 < p → m / p ≡ 1 → (p ≤ m) × (m < p + p)
above_one m p some e =
    let split : m / p * p + m % p ≡ m = div-add-mod' m p in
    let below = mod_below m p some in
    let whole : 1 * p + m % p ≡ m = rw e at split in
    (omega (arith, whole), omega (arith, whole, below))

pub number_of_one : (bin : ℕ → ℕ → ℕ) (count n : ℕ) (events : Events)
    → Spells (asked_number bin count 1) events n
    → (events ≡ bits_events bin 0 count n) × (2 ^ count ≤ n) × (n < 2 ^ count + 2 ^ count)
number_of_one bin count n events s =
    let number = number_spelled bin count 1 n events s in
    let within = above_one n (2 ^ count) (pow_pos count) number.1 in
    (number.0, within.0, within.1)

-- a count by its bits
pub count_spelled : (bin : ℕ → ℕ) (bits n : ℕ) (events : Events)
    → Spells (asked_count bin bits) events n → (events ≡ count_events bin bits n) × (n < 2 ^ bits)
unfolding asked_count count_events
count_spelled bin bits n events s =
    let node_bin : ℕ → ℕ → ℕ = λ bit node. bin node in
    let parts = parted (asked_number node_bin bits 1) (λ (m : ℕ). Told (m - 2 ^ bits)) events n s in
    let number = number_of_one node_bin bits parts.value parts.first parts.spelled in
    let last = told_last (parts.value - 2 ^ bits) n parts.rest parts.then in
    let value : parts.value ≡ 2 ^ bits + n = omega (arith, last.1, number.1) in (
      parts.whole ∙ ap₂ (λ (xs ys : Events). xs ++ ys) number.0 last.0
          ∙ append-nil (bits_events node_bin 0 bits parts.value)
          ∙ ap (bits_events node_bin 0 bits) value,
      omega (arith, value, number.2),
    )

-- a category, from the first on
pub record IsCategory (bin : ℕ → ℕ) (first last s : ℕ) (events : Events) : Type 0 where
  pub least : first ≤ s
  pub most : s ≤ last
  pub is : events ≡ step_events bin first last s

step_last : (bin : ℕ → ℕ) (first last : ℕ) → last ≡ first → [] ≡ step_events bin first last first
step_last bin first last e =
    let none : first - first ≡ 0 = omega arith in
    let over : nat_lt first last ≡ false = grind (arith, nat_tests) in
    rw (none, over) refl

step_here : (bin : ℕ → ℕ) (first last : ℕ) → first < last
    → (bin first, false) ∷ [] ≡ step_events bin first last first
step_here bin first last below =
    let none : first - first ≡ 0 = omega arith in
    let under : nat_lt first last ≡ true = grind (arith, nat_tests) in
    rw (none, under) refl

step_on : (bin : ℕ → ℕ) (first last s : ℕ) → first + 1 ≤ s
    → (bin first, true) ∷ step_events bin (first + 1) last s ≡ step_events bin first last s
step_on bin first last s least =
    let more : s - first ≡ suc (s - (first + 1)) = omega arith in
    rw more refl

pub category_spelled : (bin : ℕ → ℕ) (steps first last s : ℕ) (events : Events)
    → last ≡ first + steps → Spells (asked_category bin steps first) events s
    → IsCategory bin first last s events
unfolding asked_category
category_spelled bin zero first last s events long h =
    let told = told_last first s events h in
    record {
      least = omega (arith, told.1);
      most = omega (arith, told.1, long);
      is = told.0 ∙ step_last bin first last (omega (arith, long))
          ∙ ap (step_events bin first last) told.1;
    }
category_spelled bin (suc steps) first last s [] long h = absurd h
category_spelled bin (suc steps) first last s ((at, true) ∷ events) long h =
    let rest = category_spelled bin steps (first + 1) last s events (omega (arith, long)) h.1 in
    record {
      least = omega (arith, rest.least);
      most = rest.most;
      is = ap₂ (λ (n : ℕ) (es : Events). (n, true) ∷ es) h.0 rest.is
          ∙ step_on bin first last s rest.least;
    }
category_spelled bin (suc steps) first last s ((at, false) ∷ events) long h =
    let told = told_last first s events h.1 in
    record {
      least = omega (arith, told.1);
      most = omega (arith, told.1, long);
      is = ap₂ (λ (n : ℕ) (es : Events). (n, false) ∷ es) h.0 told.0
          ∙ step_here bin first last (omega (arith, long)) ∙ ap (step_events bin first last) told.1;
    }
