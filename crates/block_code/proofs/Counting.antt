-- Counts in bits.
use Rattle.std.proofs.Common.{◌≡◌, ℕ, ◌+◌, ◌*◌, ◌-◌, ◌/◌, ◌%◌, ◌^◌, ◌≤◌, Bool, suc, ap, ◌∙◌, sym, arith, Option, Some, None, IfSome, List, [], ◌∷◌, ◌++◌}
use Rattle.std.specs.Prelude.{◌==◌}
use Rattle.std.specs.Option.{option_map}
use Rattle.std.proofs.lemmas.Nat.{pow-add}
use Rattle.std.proofs.Math.Nat.{div-div-eq-div-mul}
use Rattle.block_spec.specs.BitEvents.{bits_events}
use Rattle.block_spec.specs.Values.{count_events}
use Rattle.block_code.proofs.BitSteps.{byte_is}
use mir.Val.{bool_byte}

-- one bit more, with the number that it makes
one_more : (at : ℕ → ℕ → ℕ) (from count n above : ℕ) → n / 2 ≡ above →
    bits_events at from (suc count) n ≡ bits_events at (from + 1) count above ++ (at from above, n % 2 == 1) ∷ []
one_more at from count n above e = ap (λ k. bits_events at (from + 1) count k ++ (at from k, n % 2 == 1) ∷ []) e

-- three bits, one after another
pub three_bits : (at : ℕ → ℕ) (above first second third : ℕ) → first / 2 ≡ above → second / 2 ≡ first → third / 2 ≡ second →
    ((at above, first % 2 == 1) ∷ []) ++ (((at first, second % 2 == 1) ∷ []) ++ ((at second, third % 2 == 1) ∷ [])) ≡ bits_events (λ bit node. at node) 0 3 third
three_bits at above first second third e f g =
    sym (one_more (λ bit node. at node) 0 2 third second g
    ∙ ap (λ (es : List (ℕ × Bool)). es ++ (at second, third % 2 == 1) ∷ []) (one_more (λ bit node. at node) 1 1 second first f
    ∙ ap (λ (es : List (ℕ × Bool)). es ++ (at first, second % 2 == 1) ∷ []) (one_more (λ bit node. at node) 2 0 first above e)))

-- three bits after three
pub six_bits : (at : ℕ → ℕ) (high n : ℕ) → n / 8 ≡ high → bits_events (λ bit node. at node) 0 3 high ++ bits_events (λ bit node. at node) 0 3 n ≡ bits_events (λ bit node. at node) 0 6 n
six_bits at high n e =
    let f : high ≡ n / 2 / 2 / 2 = omega (arith, e) in
    ap (λ (k : ℕ). bits_events (λ bit node. at node) 0 3 k ++ bits_events (λ bit node. at node) 0 3 n) f

-- one bit more of a number that is wanted
pub next_same : (number : Option ℕ) (bit u : ℕ) (b : Bool) → IfSome (option_map (λ n. n / 2 ^ bit % 2 == 1) number) (λ asked. b ≡ asked) → IfSome number (λ n. n / 2 ^ (bit + 1) ≡ u) →
    IfSome number (λ n. n / 2 ^ bit ≡ 2 * u + bool_byte b)
next_same None bit u b asked above = tt
next_same (Some n) bit u b asked above =
    let p : 2 ^ (bit + 1) ≡ 2 ^ bit * 2 = pow-add 2 bit 1 in
    let half : n / 2 ^ (bit + 1) ≡ n / 2 ^ bit / 2 = ap (λ k. n / k) p ∙ sym (div-div-eq-div-mul n (2 ^ bit) 2) in
    let byte = byte_is (n / 2 ^ bit) b asked in
    omega (arith, above, half, byte)

pub count_is : (at : ℕ → ℕ) (bits top n : ℕ) → top ≡ 2 ^ bits → 2 ^ bits ≤ n → bits_events (λ bit node. at node) 0 bits n ≡ count_events at bits (n - top)
unfolding count_events
count_is at bits top n is high = let e : 2 ^ bits + (n - top) ≡ n = omega (arith, is, high) in sym (ap (bits_events (λ bit node. at node) 0 bits) e)
