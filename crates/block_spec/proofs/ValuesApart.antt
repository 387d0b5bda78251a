-- Values and counts are one by their events.
use Rattle.std.proofs.Common.{◌≡◌, ◌≢◌, ◌⊎◌, inl, inr, ℕ, ◌+◌, ◌*◌, ◌-◌, ◌/◌, ◌%◌, ◌^◌, ◌<◌, ◌≤◌, Bool, true, false, true≢false, zero, suc, List, [], ◌∷◌, ◌++◌, refl, ap, ◌∙◌, sym, subst, arith, length}
use Rattle.std.specs.Prelude.{◌==◌, nat_lt, if◌then◌else◌, ℤ, pos, unsigned_abs, int_lt}
use Rattle.std.proofs.lemmas.Bool.Decides.{nat_tests}
use Rattle.std.proofs.lemmas.Nat.{pow-add, pow_pos, le-div, div_below}
use Rattle.std.proofs.Math.Nat.{div-div-eq-div-mul}
use Rattle.std.specs.List.{AllByRecursion}
use Rattle.block_spec.specs.EventsApart.{AreApart, OneOrApart}
use Rattle.block_spec.specs.BitEvents.{bits_events, ones}
use Rattle.coef_context.specs.ValueBins.{ValueBins}
use Rattle.block_spec.specs.Values.{category_of, is_zero, nonzeros, step_events, rest_events, value_events, count_events, one_events, values_events}
use Rattle.block_spec.proofs.CategoryBits.{same_number, top_is, zero_value, category_some, zero_abs}

pub apart_more : (xs ys as_ bs : List (ℕ × Bool)) → AreApart xs ys → AreApart (xs ++ as_) (ys ++ bs)
apart_more [] ys as_ bs h = absurd h
apart_more (x ∷ xs) [] as_ bs h = absurd h
apart_more (x ∷ xs) (y ∷ ys) as_ bs h = (h.0, elim h.1 [ inl d ↦ inl d | inr p ↦ inr (p.0, apart_more xs ys as_ bs p.1) ])

pub apart_after : (zs xs ys : List (ℕ × Bool)) → AreApart xs ys → AreApart (zs ++ xs) (zs ++ ys)
apart_after [] xs ys h = h
apart_after (z ∷ zs) xs ys h = (refl, inr (refl, apart_after zs xs ys h))

-- one after another
pub then_apart : {X Y : Type 0} → (x y : X) (a b : Y) (xs ys as_ bs : List (ℕ × Bool)) → OneOrApart x y xs ys
    → (x ≡ y → xs ≡ ys) → (x ≡ y → OneOrApart a b as_ bs) → ((x ≡ y) × (a ≡ b)) ⊎ AreApart (xs ++ as_) (ys ++ bs)
then_apart x y a b xs ys as_ bs first same second =
    elim first [
      | inl e ↦ elim (second e) [ inl f ↦ inl (e, f) | inr h ↦ inr (subst (λ zs. AreApart (xs ++ as_) (zs ++ bs)) (same e) (apart_after xs as_ bs h)) ]
      | inr h ↦ inr (apart_more xs ys as_ bs h)
    ]

bits_differ : (b c : Bool) → (b ≡ c) ⊎ (b ≢ c)
bits_differ true true = inl refl
bits_differ true false = inr true≢false
bits_differ false true = inr (λ e. true≢false (sym e))
bits_differ false false = inl refl

one_bit : (bin : ℕ) (b c : Bool) → OneOrApart b c ((bin, b) ∷ []) ((bin, c) ∷ [])
one_bit bin b c = elim (bits_differ b c) [ inl e ↦ inl e | inr d ↦ inr (refl, inl d) ]

parity : (k l : ℕ) → k < 2 → l < 2 → k == 1 ≡ l == 1 → k ≡ l
parity zero zero p q e = refl
parity zero (suc zero) p q e = absurd (true≢false (sym e))
parity (suc zero) zero p q e = absurd (true≢false e)
parity (suc zero) (suc zero) p q e = refl
parity (suc (suc k)) l p q e = absurd (omega arith)
parity k (suc (suc l)) p q e = absurd (omega arith)

whole : (m n : ℕ) → m / 2 ≡ n / 2 → m % 2 == 1 ≡ n % 2 == 1 → m ≡ n
whole m n h e = let p = parity (m % 2) (n % 2) (omega arith) (omega arith) e in omega (arith, h, p)

half_top : (m count : ℕ) → m / 2 ^ suc count ≡ m / 2 / 2 ^ count
half_top m count = let p : 2 ^ suc count ≡ 2 * 2 ^ count = ap (λ k. 2 ^ k) (let s : suc count ≡ 1 + count = omega arith in s) ∙ pow-add 2 1 count in ap (λ k. m / k) p ∙ sym (div-div-eq-div-mul m 2 (2 ^ count))

pub bits_apart : (at : ℕ → ℕ → ℕ) (from count m n : ℕ) → m / 2 ^ count ≡ n / 2 ^ count
    → OneOrApart m n (bits_events at from count m) (bits_events at from count n)
bits_apart at from zero m n top = inl (omega (arith, top))
bits_apart at from (suc count) m n top =
    let above = bits_apart at (from + 1) count (m / 2) (n / 2) (sym (half_top m count) ∙ top ∙ half_top n count) in
    elim (then_apart (m / 2) (n / 2) (m % 2 == 1) (n % 2 == 1) (bits_events at (from + 1) count (m / 2)) (bits_events at (from + 1) count (n / 2)) ((at from (m / 2), m % 2 == 1) ∷ []) ((at from (n / 2), n % 2 == 1) ∷ []) above
    (λ e. ap (bits_events at (from + 1) count) e)
    (λ e. subst (λ k. OneOrApart (m % 2 == 1) (n % 2 == 1) ((at from (m / 2), m % 2 == 1) ∷ []) ((at from k, n % 2 == 1) ∷ [])) e (one_bit (at from (m / 2)) (m % 2 == 1) (n % 2 == 1))))
    [ inl e ↦ inl (whole m n e.0 e.1) | inr h ↦ inr h ]

-- fewer ones and a zero against more ones
ones_apart : (at : ℕ → ℕ) (from short more : ℕ) (xs ys : List (ℕ × Bool))
    → AreApart (ones at from short ++ ((at (from + short), false) ∷ xs)) (ones at from (short + suc more) ++ ys)
ones_apart at from zero more xs ys = let e : from + 0 ≡ from = omega arith in let f : 0 + suc more ≡ suc more = omega arith in rw (e, f) (refl, inl (λ h. true≢false (sym h)))
ones_apart at from (suc short) more xs ys =
    let e : from + suc short ≡ from + 1 + short = omega arith in let f : suc short + suc more ≡ suc (short + suc more) = omega arith in
    rw (e, f) (refl, inr (refl, ones_apart at (from + 1) short more xs ys))

pub apart_back : (xs ys : List (ℕ × Bool)) → AreApart xs ys → AreApart ys xs
apart_back [] ys h = absurd h
apart_back (x ∷ xs) [] h = absurd h
apart_back (x ∷ xs) (y ∷ ys) h = (sym h.0, elim h.1 [ inl d ↦ inl (λ e. d (sym e)) | inr p ↦ inr (sym p.0, apart_back xs ys p.1) ])

less_apart : (at : ℕ → ℕ) (first steps s t : ℕ) → first ≤ s → s < t → t ≤ steps
    → AreApart (step_events at first steps s) (step_events at first steps t)
less_apart at first steps s t low less high =
    let under : nat_lt s steps ≡ true = grind (arith, nat_tests) in
    let e : t - first ≡ (s - first) + suc (t - s - 1) = omega arith in
    let f : s ≡ first + (s - first) = omega arith in
    rw (under, e) (subst (λ k. AreApart (ones at first (s - first) ++ ((at k, false) ∷ [])) (ones at first ((s - first) + suc (t - s - 1)) ++ (if nat_lt t steps then (at t, false) ∷ [] else []))) (sym f)
    (ones_apart at first (s - first) (t - s - 1) [] (if nat_lt t steps then (at t, false) ∷ [] else [])))

pub steps_apart : (at : ℕ → ℕ) (first steps s t : ℕ) → first ≤ s → first ≤ t → s ≤ steps → t ≤ steps
    → OneOrApart s t (step_events at first steps s) (step_events at first steps t)
steps_apart at first steps s t ls lt hs ht =
    elim (nat_lt s t) as (λ b. nat_lt s t ≡ b → OneOrApart s t (step_events at first steps s) (step_events at first steps t)) [
      | true ↦ λ e. let less : s < t = grind (arith, nat_tests) in inr (less_apart at first steps s t ls less ht)
      | false ↦ λ e. elim (nat_lt t s) as (λ b. nat_lt t s ≡ b → OneOrApart s t (step_events at first steps s) (step_events at first steps t)) [
        | true ↦ λ f. let less : t < s = grind (arith, nat_tests) in inr (apart_back (step_events at first steps t) (step_events at first steps s) (less_apart at first steps t s lt less hs))
        | false ↦ λ f. let one : s ≡ t = grind (arith, nat_tests) in inl one
      ] refl
    ] refl

categories_same : (bins : ValueBins) (s : ℕ) (x y : ℤ) → category_of x ≡ s → category_of y ≡ s
    → OneOrApart x y (rest_events bins s x) (rest_events bins s y)
categories_same bins zero x y sx sy = inl (zero_value x sx ∙ sym (zero_value y sy))
categories_same bins (suc low) x y sx sy =
    let tops : unsigned_abs x / 2 ^ low ≡ unsigned_abs y / 2 ^ low = top_is (unsigned_abs x) low sx ∙ sym (top_is (unsigned_abs y) low sy) in
    elim (then_apart (int_lt x (pos 0)) (int_lt y (pos 0)) (unsigned_abs x) (unsigned_abs y) ((bins.sign (suc low), int_lt x (pos 0)) ∷ []) ((bins.sign (suc low), int_lt y (pos 0)) ∷ [])
    (bits_events (λ bit above. bins.low (suc low) bit) 0 low (unsigned_abs x)) (bits_events (λ bit above. bins.low (suc low) bit) 0 low (unsigned_abs y))
    (one_bit (bins.sign (suc low)) (int_lt x (pos 0)) (int_lt y (pos 0))) (λ e. ap (λ b. (bins.sign (suc low), b) ∷ []) e) (λ e. bits_apart (λ bit above. bins.low (suc low) bit) 0 low (unsigned_abs x) (unsigned_abs y) tops))
    [ inl e ↦ inl (same_number x y e.1 e.0) | inr h ↦ inr h ]

pub value_apart : (bins : ValueBins) (first steps : ℕ) (x y : ℤ) → first ≤ category_of x → first ≤ category_of y
    → category_of x ≤ steps → category_of y ≤ steps →
    OneOrApart x y (value_events bins first steps x) (value_events bins first steps y)
unfolding value_events
value_apart bins first steps x y lx ly hx hy =
    elim (then_apart (category_of x) (category_of y) x y (step_events bins.step first steps (category_of x)) (step_events bins.step first steps (category_of y)) (rest_events bins (category_of x) x) (rest_events bins (category_of y) y)
    (steps_apart bins.step first steps (category_of x) (category_of y) lx ly hx hy) (λ e. ap (step_events bins.step first steps) e) (λ e. subst (λ k. OneOrApart x y (rest_events bins (category_of x) x) (rest_events bins k y)) e (categories_same bins (category_of x) x y refl (sym e))))
    [ inl e ↦ inl e.1 | inr h ↦ inr h ]

one_top : (bits n : ℕ) → n < 2 ^ bits → (2 ^ bits + n) / 2 ^ bits ≡ 1
one_top bits n below =
    let least : 1 ≤ (2 ^ bits + n) / 2 ^ bits = le-div 1 (2 ^ bits + n) (2 ^ bits) (pow_pos bits) (omega arith) in
    let most : (2 ^ bits + n) / 2 ^ bits < 2 = div_below (2 ^ bits + n) (2 ^ bits) 2 (pow_pos bits) (omega (arith, below)) in
    omega (arith, least, most)

pub count_apart : (at : ℕ → ℕ) (bits m n : ℕ) → m < 2 ^ bits → n < 2 ^ bits
    → OneOrApart m n (count_events at bits m) (count_events at bits n)
unfolding count_events
count_apart at bits m n bm bn =
    elim (bits_apart (λ bit node. at node) 0 bits (2 ^ bits + m) (2 ^ bits + n) (one_top bits m bm ∙ sym (one_top bits n bn)))
    [ inl e ↦ inl (omega (arith, e)) | inr h ↦ inr h ]

-- a coefficient of ten steps at most
abbrev pub IsTen : ℤ → Type 0
IsTen x = category_of x ≤ 10

pub nonzeros_le : (xs : List ℤ) → nonzeros xs ≤ length xs
nonzeros_le [] = omega arith
nonzeros_le (x ∷ xs) = let h = nonzeros_le xs in elim (is_zero x) as (λ t. (if t then 0 else 1) + nonzeros xs ≤ suc (length xs)) [ true ↦ omega arith | false ↦ omega arith ]

none_first : (x : ℤ) (xs : List ℤ) → nonzeros (x ∷ xs) ≡ 0 → x ≡ pos 0
none_first x xs e = elim (is_zero x) as (λ t. is_zero x ≡ t → (if t then 0 else 1) + nonzeros xs ≡ 0 → x ≡ pos 0)
    [ true ↦ λ h k. zero_abs x (grind (arith, nat_tests)) | false ↦ λ h k. absurd (omega arith) ] refl e

full_first : (x : ℤ) (xs : List ℤ) → nonzeros (x ∷ xs) ≡ length (x ∷ xs) → 1 ≤ category_of x
full_first x xs e = let r = nonzeros_le xs in elim (is_zero x) as (λ t. is_zero x ≡ t → (if t then 0 else 1) + nonzeros xs ≡ suc (length xs) → 1 ≤ category_of x)
    [ true ↦ λ h k. absurd (omega (arith, r, k)) | false ↦ λ h k. category_some (unsigned_abs x) (grind (arith, nat_tests)) ] refl e

first_least : (remain places : ℕ) (x : ℤ) → (remain ≡ places → 1 ≤ category_of x)
    → (if remain == places then 1 else 0) ≤ category_of x
first_least remain places x full = elim (remain == places) as (λ t. remain == places ≡ t → (if t then 1 else 0) ≤ category_of x)
    [ true ↦ λ e. full (grind (arith, nat_tests)) | false ↦ λ e. omega arith ] refl

one_apart : (bins : ValueBins) (remain places : ℕ) (x y : ℤ) → IsTen x → IsTen y → (remain ≡ 0 → x ≡ y)
    → (remain ≡ places → 1 ≤ category_of x) → (remain ≡ places → 1 ≤ category_of y) →
    OneOrApart x y (one_events bins remain places x) (one_events bins remain places y)
one_apart bins remain places x y tx ty none fx fy =
    elim (remain == 0) as (λ t. remain == 0 ≡ t → OneOrApart x y (if t then [] else value_events bins (if remain == places then 1 else 0) 10 x) (if t then [] else value_events bins (if remain == places then 1 else 0) 10 y)) [
      | true ↦ λ e. inl (none (grind (arith, nat_tests)))
      | false ↦ λ e. value_apart bins (if remain == places then 1 else 0) 10 x y (first_least remain places x fx) (first_least remain places y fy) tx ty
    ] refl

rest_count : (x y : ℤ) (xs ys : List ℤ) → nonzeros (x ∷ xs) ≡ nonzeros (y ∷ ys) → x ≡ y → nonzeros xs ≡ nonzeros ys
rest_count x y xs ys e same =
    let h : (if is_zero y then 0 else 1) + nonzeros xs ≡ (if is_zero y then 0 else 1) + nonzeros ys = subst (λ (z : ℤ). (if is_zero z then 0 else 1) + nonzeros xs ≡ (if is_zero y then 0 else 1) + nonzeros ys) same e in omega (arith, h)

-- two lists of values of one length and one count of those that are not 0
pub values_apart : (at : ℕ → ℕ → ValueBins) (place : ℕ) (xs ys : List ℤ) → length xs ≡ length ys
    → nonzeros xs ≡ nonzeros ys → AllByRecursion IsTen xs → AllByRecursion IsTen ys →
    OneOrApart xs ys (values_events at place xs) (values_events at place ys)
unfolding values_events
values_apart at place [] [] long count p q = inl refl
values_apart at place [] (y ∷ ys) long count p q = absurd (omega (arith, long))
values_apart at place (x ∷ xs) [] long count p q = absurd (omega (arith, long))
values_apart at place (x ∷ xs) (y ∷ ys) long count p q =
    let first : OneOrApart x y (one_events (at place (nonzeros (x ∷ xs))) (nonzeros (x ∷ xs)) (length (x ∷ xs)) x) (one_events (at place (nonzeros (y ∷ ys))) (nonzeros (y ∷ ys)) (length (y ∷ ys)) y) =
    subst (λ (n : ℕ). OneOrApart x y (one_events (at place (nonzeros (x ∷ xs))) (nonzeros (x ∷ xs)) (length (x ∷ xs)) x) (one_events (at place (nonzeros (y ∷ ys))) (nonzeros (y ∷ ys)) n y)) long
    (subst (λ (n : ℕ). OneOrApart x y (one_events (at place (nonzeros (x ∷ xs))) (nonzeros (x ∷ xs)) (length (x ∷ xs)) x) (one_events (at place n) n (length (x ∷ xs)) y)) count
    (one_apart (at place (nonzeros (x ∷ xs))) (nonzeros (x ∷ xs)) (length (x ∷ xs)) x y p.0 q.0 (λ z. none_first x xs z ∙ sym (none_first y ys (sym count ∙ z))) (full_first x xs) (λ f. full_first y ys (sym count ∙ f ∙ long)))) in
    let same : x ≡ y → one_events (at place (nonzeros (x ∷ xs))) (nonzeros (x ∷ xs)) (length (x ∷ xs)) x ≡ one_events (at place (nonzeros (y ∷ ys))) (nonzeros (y ∷ ys)) (length (y ∷ ys)) y =
    λ e. ap (one_events (at place (nonzeros (x ∷ xs))) (nonzeros (x ∷ xs)) (length (x ∷ xs))) e ∙ ap (λ (n : ℕ). one_events (at place (nonzeros (x ∷ xs))) (nonzeros (x ∷ xs)) n y) long ∙ ap (λ (n : ℕ). one_events (at place n) n (length (y ∷ ys)) y) count in
    elim (then_apart x y xs ys (one_events (at place (nonzeros (x ∷ xs))) (nonzeros (x ∷ xs)) (length (x ∷ xs)) x) (one_events (at place (nonzeros (y ∷ ys))) (nonzeros (y ∷ ys)) (length (y ∷ ys)) y)
    (values_events at (place + 1) xs) (values_events at (place + 1) ys) first same
    (λ e. values_apart at (place + 1) xs ys (omega (arith, long)) (rest_count x y xs ys count e) p.1 q.1))
    [ inl e ↦ inl (ap (λ (z : ℤ). z ∷ xs) e.0 ∙ ap (λ (zs : List ℤ). y ∷ zs) e.1) | inr h ↦ inr h ]
