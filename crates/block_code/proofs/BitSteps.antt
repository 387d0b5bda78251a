-- One bit more.
use Rattle.std.proofs.Common.{◌≡◌, ℕ, ◌+◌, ◌*◌, ◌-◌, ◌/◌, ◌%◌, ◌^◌, ◌<◌, ◌≤◌, Bool, true, false, [], ◌∷◌, ◌++◌, zero, suc, refl, ap, ◌∙◌, sym, arith, add-zero, Option, Some, None, IfSome, lit≤}
use Rattle.std.specs.Prelude.{◌==◌, nat_lt}
use Rattle.std.specs.Option.{option_map}
use Rattle.std.proofs.lemmas.Bool.Decides.{nat_tests}
use Rattle.std.proofs.lemmas.Nat.{pow-add}
use Rattle.std.proofs.Math.Nat.{div-div-eq-div-mul}
use Rattle.block_spec.specs.BitEvents.{bits_events, ones}
use mir.Val.{bool_byte}

half_of : (u : ℕ) (b : Bool) → (2 * u + bool_byte b) / 2 ≡ u
half_of u true = omega arith
half_of u false = omega arith

odd_of : (u : ℕ) (b : Bool) → ((2 * u + bool_byte b) % 2 == 1) ≡ b
odd_of u true = let e : (2 * u + 1) % 2 ≡ 1 = omega arith in rw e refl
odd_of u false = let e : (2 * u + 0) % 2 ≡ 0 = omega arith in rw e refl

pub bits_more : (at : ℕ → ℕ → ℕ) (from count u : ℕ) (b : Bool) → bits_events at from (suc count) (2 * u + bool_byte b) ≡ bits_events at (from + 1) count u ++ (at from u, b) ∷ []
bits_more at from count u b = rw (half_of u b, odd_of u b) refl

-- the same where a loop counts down
pub bits_down : (at : ℕ → ℕ → ℕ) (bits counter u : ℕ) (b : Bool) → 0 < counter → counter ≤ bits →
    bits_events at counter (bits - counter) u ++ (at (counter - 1) u, b) ∷ [] ≡ bits_events at (counter - 1) (bits - (counter - 1)) (2 * u + bool_byte b)
bits_down at bits counter u b some within =
    let c : counter ≡ counter - 1 + 1 = omega arith in
    let d : bits - (counter - 1) ≡ suc (bits - counter) = omega arith in
    rw d (sym (bits_more at (counter - 1) (bits - counter) u b ∙ ap (λ k. bits_events at k (bits - counter) u ++ (at (counter - 1) u, b) ∷ []) (sym c)))

next_power : (bits counter : ℕ) → 0 < counter → counter ≤ bits → 2 ^ (bits - (counter - 1)) ≡ 2 * 2 ^ (bits - counter)
next_power bits counter some within =
    let d : bits - (counter - 1) ≡ 1 + (bits - counter) = omega arith in
    rw d (pow-add 2 1 (bits - counter))

pub low_more : (bits counter u : ℕ) (b : Bool) → 0 < counter → counter ≤ bits → 2 ^ (bits - counter) ≤ u → 2 ^ (bits - (counter - 1)) ≤ 2 * u + bool_byte b
low_more bits counter u b some within low = rw (next_power bits counter some within) (omega arith)

byte_small : (b : Bool) → bool_byte b ≤ 1
byte_small true = lit≤ tt
byte_small false = lit≤ tt

pub high_more : (bits counter u : ℕ) (b : Bool) → 0 < counter → counter ≤ bits → u < 2 ^ (bits - counter + 1) → 2 * u + bool_byte b < 2 ^ (bits - (counter - 1) + 1)
high_more bits counter u b some within high =
    let p : 2 ^ (bits - counter + 1) ≡ 2 ^ (bits - counter) * 2 = pow-add 2 (bits - counter) 1 in
    let q : 2 ^ (bits - (counter - 1) + 1) ≡ 2 ^ (bits - (counter - 1)) * 2 = pow-add 2 (bits - (counter - 1)) 1 in
    let r = next_power bits counter some within in
    omega (arith, p, q, r, high, byte_small b)

byte_of : (k : ℕ) → k < 2 → bool_byte (k == 1) ≡ k
byte_of zero below = refl
byte_of (suc zero) below = refl
byte_of (suc (suc k)) below = absurd (omega arith)

pub byte_is : (n : ℕ) (b : Bool) → b ≡ (n % 2 == 1) → bool_byte b ≡ n % 2
byte_is n b e = ap bool_byte e ∙ byte_of (n % 2) (omega arith)

-- the bits above, where they are those of a number
pub same_more : (number : Option ℕ) (counter u : ℕ) (b : Bool) → 0 < counter → IfSome (option_map (λ n. n / 2 ^ (counter - 1) % 2 == 1) number) (λ asked. b ≡ asked) → IfSome number (λ n. u ≡ n / 2 ^ counter) →
    IfSome number (λ n. 2 * u + bool_byte b ≡ n / 2 ^ (counter - 1))
same_more None counter u b some asked above = tt
same_more (Some n) counter u b some asked above =
    let c : counter ≡ counter - 1 + 1 = omega arith in
    let p : 2 ^ counter ≡ 2 ^ (counter - 1) * 2 = ap (λ k. 2 ^ k) c ∙ pow-add 2 (counter - 1) 1 in
    let half : n / 2 ^ counter ≡ n / 2 ^ (counter - 1) / 2 = ap (λ k. n / k) p ∙ sym (div-div-eq-div-mul n (2 ^ (counter - 1)) 2) in
    let byte = byte_is (n / 2 ^ (counter - 1)) b asked in
    omega (arith, above ∙ half, byte)

pub run_more : (at : ℕ → ℕ) (from count : ℕ) → ones at from (suc count) ≡ ones at from count ++ (at (from + count), true) ∷ []
run_more at from zero = rw add-zero refl
run_more at from (suc count) =
    let e : from + 1 + count ≡ from + suc count = omega arith in
    ap (λ es. (at from, true) ∷ es) (run_more at (from + 1) count ∙ ap (λ k. ones at (from + 1) count ++ (at k, true) ∷ []) e)

pub run_up : (at : ℕ → ℕ) (from step : ℕ) → from ≤ step → ones at from (step - from) ++ (at step, true) ∷ [] ≡ ones at from (step + 1 - from)
run_up at from step le =
    let d : step + 1 - from ≡ suc (step - from) = omega arith in
    let e : step ≡ from + (step - from) = omega arith in
    rw d (ap (λ k. ones at from (step - from) ++ (at k, true) ∷ []) e ∙ sym (run_more at from (step - from)))

pub step_up : (size : Option ℕ) (step : ℕ) (b : Bool) → b ≡ true → IfSome (option_map (λ s. nat_lt step s) size) (λ asked. b ≡ asked) → IfSome size (λ s. step + 1 ≤ s)
step_up None step b one asked = tt
step_up (Some s) step b one asked = let e : nat_lt step s ≡ true = sym asked ∙ one in grind (arith, nat_tests)
