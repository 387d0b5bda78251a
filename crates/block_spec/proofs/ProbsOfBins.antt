-- Each probability is from 1 to 255.
use Rattle.std.proofs.Common.{◌≡◌, ◌≢◌, ℕ, ◌+◌, ◌*◌, ◌<◌, ◌≤◌, arith, refl, Bool, true, false, List, [], ◌∷◌, ◌++◌}
use Rattle.std.specs.Prelude.{◌==◌, if◌then◌else◌, fold}
use Rattle.std.specs.List.{AllByRecursion}
use Rattle.std.proofs.lemmas.Bool.Decides.{nat_tests}
use Rattle.std.proofs.lemmas.Nat.{le-div, div_below}
use Rattle.bool_coder.specs.BoolStream.{IsBool}
use Rattle.adapt_bins.specs.Counts.{Counts, unseen, halved, raised, counted, prob_of}
use Rattle.adapt_bins.specs.Events.{bits_in, probability, bools_after, bools_of}

-- counts from 1 to 255
record AreInRange (c : Counts) : Type 0 where
  some_zeros : 1 ≤ c.zeros
  most_zeros : c.zeros ≤ 255
  some_ones : 1 ≤ c.ones
  most_ones : c.ones ≤ 255

halved_in : (c : Counts) → AreInRange c → AreInRange (halved c)
halved_in c is = record {
  some_zeros = let h = is.some_zeros in omega arith;
  most_zeros = let h = is.most_zeros in omega arith;
  some_ones = let h = is.some_ones in omega arith;
  most_ones = let h = is.most_ones in omega arith;
}

-- where the count that rises is not at its end
raised_in : (c : Counts) (bit : Bool) → AreInRange c → (if bit then c.ones else c.zeros) < 255
    → AreInRange (raised c bit)
raised_in c true is below = record {
  some_zeros = is.some_zeros;
  most_zeros = is.most_zeros;
  some_ones = omega arith;
  most_ones = omega (arith, below);
}
raised_in c false is below = record {
  some_zeros = omega arith;
  most_zeros = omega (arith, below);
  some_ones = is.some_ones;
  most_ones = is.most_ones;
}

half_below : (c : Counts) (bit : Bool) → (if bit then c.ones else c.zeros) ≡ 255
    → (if bit then (halved c).ones else (halved c).zeros) < 255
half_below c true e = omega (arith, e)
half_below c false e = omega (arith, e)

at_most : (c : Counts) (bit : Bool) → AreInRange c → (if bit then c.ones else c.zeros) ≤ 255
at_most c true is = is.most_ones
at_most c false is = is.most_zeros

counted_in : (c : Counts) (bit : Bool) → AreInRange c → AreInRange (counted c bit)
counted_in c bit is =
    let count : ℕ = if bit then c.ones else c.zeros in
    elim (count == 255) as (λ t. (count == 255) ≡ t → AreInRange (raised (if t then halved c else c) bit)) [
      | true ↦ λ e. raised_in (halved c) bit (halved_in c is) (half_below c bit (grind (arith, nat_tests)))
      | false ↦ λ e. raised_in c bit is (let most = at_most c bit is in let other : count ≢ 255 = grind (arith, nat_tests) in omega (arith, most, other))
    ] refl

folded_in : (bits : List Bool) (c : Counts) → AreInRange c → AreInRange (fold counted c bits)
folded_in [] c is = is
folded_in (bit ∷ bits) c is = folded_in bits (counted c bit) (counted_in c bit is)

some_of : (z o : ℕ) → 1 ≤ z → o ≤ 255 → 1 * (z + o) ≤ 256 * z
some_of z o some most = omega arith

prob_in : (c : Counts) → AreInRange c → (1 ≤ prob_of c) × (prob_of c < 256)
prob_in c is =
    let z = is.some_zeros in
    let o = is.some_ones in
    let sum : 0 < c.zeros + c.ones = omega (arith, z) in (
      le-div 1 (256 * c.zeros) (c.zeros + c.ones) sum (some_of c.zeros c.ones z is.most_ones),
      div_below (256 * c.zeros) (c.zeros + c.ones) 256 sum (omega (arith, o)),
    )

probability_in : (earlier : List (ℕ × Bool)) (bin : ℕ) → (1 ≤ probability earlier bin) × (probability earlier bin < 256)
probability_in earlier bin =
    let first : AreInRange unseen = record { some_zeros = omega arith; most_zeros = omega arith; some_ones = omega arith; most_ones = omega arith } in
    prob_in (fold counted unseen (bits_in bin earlier)) (folded_in (bits_in bin earlier) unseen first)

-- after any earlier events
probs_after : (events earlier : List (ℕ × Bool)) → AllByRecursion IsBool (bools_after earlier events)
probs_after [] earlier = tt
probs_after (e ∷ events) earlier = (probability_in earlier e.0, probs_after events (earlier ++ e ∷ []))

pub probs_in : (events : List (ℕ × Bool)) → AllByRecursion IsBool (bools_of events)
probs_in events = probs_after events []
