-- How many bits a number has.
use Rattle.std.proofs.Common.{◌≡◌, ℕ, zero, suc, ◌*◌, ◌/◌, ◌^◌, ◌<◌, ◌≤◌, false, true≢false, ℤ, pos, negsuc, unsigned_abs, refl, sym, ap, ◌∙◌, inl, inr, arith, pow-suc}
use Rattle.std.specs.Prelude.{int_lt}
use Rattle.std.specs.Int.Digits.{digits_of}
use Rattle.std.proofs.lemmas.Bool.{cases_lt}
use Rattle.std.proofs.lemmas.Bool.Decides.{nat_tests}
use Rattle.std.proofs.lemmas.Nat.{pow_pos, le-div, div_below}
use Rattle.std.proofs.lemmas.Int.Digits.{length-digits_of_step, length-digits_of-le, number_lt, number_digits_of, all_below_base_digits_of}
use Rattle.coef_block.specs.Categories.{category}
use Rattle.block_spec.specs.Values.{category_of}

pub category_at_most : (m n : ℕ) → n < 2 ^ m → category n ≤ m
category_at_most m n below = length-digits_of-le 2 m n (omega arith) below

pub category_below : (n : ℕ) → n < 2 ^ category n
category_below n =
    let fits = number_lt 2 (digits_of 2 n) (all_below_base_digits_of 2 n (omega arith)) in
    rw (number_digits_of 2 n (omega arith)) at fits

pub category_least : (k n : ℕ) → category n ≡ suc k → 2 ^ k ≤ n
category_least k n is =
    elim (cases_lt n (2 ^ k)) [
      | inl below ↦ absurd (omega (arith, is, category_at_most k n below))
      | inr least ↦ least
    ]

pub category_some : (n : ℕ) → 0 < n → 1 ≤ category n
category_some n some = let e = length-digits_of_step 2 n (omega arith) some in omega (arith, e)

pub top_is : (n low : ℕ) → category n ≡ suc low → n / 2 ^ low ≡ 1
top_is n low is =
    let below : n < 2 ^ suc low = rw is at (category_below n) in
    let p : 2 ^ suc low ≡ 2 ^ low * 2 = pow-suc 2 low in
    let least : 1 ≤ n / 2 ^ low = le-div 1 n (2 ^ low) (pow_pos low) (omega (arith, category_least low n is)) in
    let most : n / 2 ^ low < 2 = div_below n (2 ^ low) 2 (pow_pos low) (omega (arith, p, below)) in
    omega (arith, least, most)

pub category_none : (n : ℕ) → category n ≡ 0 → n ≡ 0
category_none zero is = refl
category_none (suc n) is = absurd (let h = category_some (suc n) (omega arith) in omega (arith, h, is))

not_below : (a : ℕ) → int_lt (pos a) (pos 0) ≡ false
not_below a = grind (arith, nat_tests)

pub same_number : (x y : ℤ) → unsigned_abs x ≡ unsigned_abs y → int_lt x (pos 0) ≡ int_lt y (pos 0) → x ≡ y
same_number (pos a) (pos b) m s = ap pos m
same_number (pos a) (negsuc b) m s = absurd (true≢false (sym s ∙ not_below a))
same_number (negsuc a) (pos b) m s = absurd (true≢false (s ∙ not_below b))
same_number (negsuc a) (negsuc b) m s = ap negsuc (omega (arith, m))

pub zero_abs : (x : ℤ) → unsigned_abs x ≡ 0 → x ≡ pos 0
zero_abs (pos n) e = ap pos e
zero_abs (negsuc n) e = absurd (omega (arith, e))

pub zero_value : (x : ℤ) → category_of x ≡ 0 → x ≡ pos 0
zero_value x z = zero_abs x (category_none (unsigned_abs x) z)
