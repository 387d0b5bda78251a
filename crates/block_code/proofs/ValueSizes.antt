-- Sizes.
use Rattle.std.proofs.Common.{◌≡◌, ℕ, ◌+◌, ◌*◌, ◌-◌, ◌/◌, ◌^◌, ◌<◌, ◌≤◌, zero, suc, refl, ◌∙◌, sym, arith, Option, Some, None, IfSome, [], ◌∷◌, ◌++◌, pow-suc, Bool, true, false}
use Rattle.std.specs.Prelude.{ℤ, pos, unsigned_abs, int_lt, nat_lt}
use Rattle.std.specs.Option.{option_map}
use Rattle.std.proofs.lemmas.Bool.Decides.{nat_tests}
use Rattle.std.proofs.lemmas.List.{append-nil}
use Rattle.block_spec.specs.BitEvents.{bits_events, ones}
use Rattle.coef_context.specs.ValueBins.{ValueBins}
use Rattle.block_spec.specs.Values.{category_of, rest_events, value_events, step_events}
use Rattle.block_spec.proofs.CategoryBits.{category_below, category_least, same_number, top_is, zero_value}
use Rattle.coef_block.specs.Categories.{category}
use Rattle.coef_block.proofs.CategoryLemmas.{size_of_bound}

pub size_of_zero : category_of (pos 0) ≡ 0
size_of_zero = refl

-- a number whose bits below the top one are as many as said
pub length_is : (n low : ℕ) → 2 ^ low ≤ n → n < 2 ^ (low + 1) → category n ≡ suc low
length_is n low least below =
    let e : suc low ≡ low + 1 = omega arith in
    let p : 2 ^ suc low ≡ 2 ^ low * 2 = pow-suc 2 low in
    sym (size_of_bound (suc low) n (rw e below) (omega (arith, p, least)))

pub rest_is : (bins : ValueBins) (s : ℕ) (x : ℤ) → 1 ≤ s →
    rest_events bins s x ≡ (bins.sign s, int_lt x (pos 0)) ∷ bits_events (λ bit above. bins.low s bit) 0 (s - 1) (unsigned_abs x)
rest_is bins zero x some = absurd (omega arith)
rest_is bins (suc low) x some = let e : suc low - 1 ≡ low = omega arith in rw e refl

pub top_asked : (value : Option ℤ) (s : ℕ) → 1 ≤ s → IfSome value (λ x. category_of x ≡ s) → IfSome (option_map unsigned_abs value) (λ n. n / 2 ^ (s - 1) ≡ 1)
top_asked None s some fits = tt
top_asked (Some x) s some fits =
    let e : s ≡ suc (s - 1) = omega arith in
    top_is (unsigned_abs x) (s - 1) (fits ∙ e)

pub value_of_zero : (bins : ValueBins) (first steps : ℕ) → value_events bins first steps (pos 0) ≡ step_events bins.step first steps 0
unfolding value_events
value_of_zero bins first steps = append-nil (step_events bins.step first steps 0)

pub zero_asked : (value : Option ℤ) (s : ℕ) → s ≡ 0 → IfSome (option_map category_of value) (λ n. s ≡ n) → IfSome value (λ x. pos 0 ≡ x)
zero_asked None s z same = tt
zero_asked (Some x) s z same = sym (zero_value x (sym same ∙ z))

-- a value that stops at a step
pub stops : (bins : ValueBins) (k steps : ℕ) (x : ℤ) → k < steps → category_of x ≡ k → ((bins.step k, false) ∷ []) ++ rest_events bins k x ≡ value_events bins k steps x
unfolding value_events
stops bins k steps x below is =
    let none : k - k ≡ 0 = omega arith in
    let less : nat_lt k steps ≡ true = grind (arith, nat_tests) in
    rw (is, none, less) refl

-- and one that goes on
pub goes_on : (bins : ValueBins) (k steps : ℕ) (x : ℤ) → k + 1 ≤ category_of x → ((bins.step k, true) ∷ []) ++ value_events bins (k + 1) steps x ≡ value_events bins k steps x
unfolding value_events
goes_on bins k steps x more =
    let e : category_of x - k ≡ suc (category_of x - (k + 1)) = omega (arith, more) in
    rw e refl

-- a value from its first step on, 0 or 1
pub from_first : (bins : ValueBins) (first steps : ℕ) (x : ℤ) → first ≤ 1 → 1 ≤ category_of x → ones bins.step first (1 - first) ++ value_events bins 1 steps x ≡ value_events bins first steps x
from_first bins zero steps x few some = goes_on bins 0 steps x some
from_first bins (suc zero) steps x few some = refl
from_first bins (suc (suc first)) steps x few some = absurd (omega (arith, few))

pub zero_coded : (bins : ValueBins) (first steps : ℕ) → first ≡ 0 → 0 < steps → (bins.step 0, false) ∷ [] ≡ value_events bins first steps (pos 0)
zero_coded bins first steps is some = rw is (stops bins 0 steps (pos 0) some refl)

-- a value that is coded as no number above the first step
pub not_asked : (value : Option ℤ) (some : Bool) → some ≡ false → IfSome (option_map category_of value) (λ s. some ≡ nat_lt 0 s) → IfSome value (λ x. pos 0 ≡ x)
not_asked None some none same = tt
not_asked (Some x) some none same =
    let e : nat_lt 0 (category_of x) ≡ false = sym same ∙ none in
    sym (zero_value x (grind (arith, nat_tests)))

-- a value of one bit by its sign
pub one_asked : (value : Option ℤ) (negative : Bool) (y : ℤ) → IfSome value (λ x. category_of x ≡ 1) → IfSome (option_map (λ x. int_lt x (pos 0)) value) (λ s. negative ≡ s)
    → unsigned_abs y ≡ 1 → int_lt y (pos 0) ≡ negative → IfSome value (λ x. y ≡ x)
one_asked None negative y is same one sign = tt
one_asked (Some x) negative y is same one sign =
    let least = category_least 0 (unsigned_abs x) is in
    let below : unsigned_abs x < 2 ^ 1 = rw is at (category_below (unsigned_abs x)) in
    same_number y x (omega (arith, one, least, below)) (sign ∙ same)
