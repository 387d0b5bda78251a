-- What goes through a window, piece by piece.
use Rattle.std.proofs.Common.{◌≡◌, ℕ, zero, suc, ◌+◌, ◌-◌, ◌≤◌, List, [], ◌∷◌, ◌++◌, length, take, drop, refl, ap, ap₂, ◌∙◌, arith, Option, Some, None}
use Rattle.std.proofs.lemmas.List.{length-take, length-drop}
use Rattle.byte_window.specs.declared.window.Window.{Window}
use Rattle.byte_window.specs.Windows.{at_most, window, fewer, after, at_most_of}
use Rattle.byte_window.specs.WindowLaws.{AllPasses, ComesInPieces, StepsAdd, StepOfNothing, IsCounted, IsPrefix}

-- the first items of two lists joined
pub take_joined : (n : ℕ) (xs ys : List ℕ) → take n (xs ++ ys) ≡ take n xs ++ take (n - length xs) ys
take_joined zero [] ys = let e : 0 ≡ 0 - 0 = omega arith in ap (λ (k : ℕ). take k ys) e
take_joined (suc n) [] ys =
    let e : suc n ≡ suc n - 0 = omega arith in ap (λ (k : ℕ). take k ys) e
take_joined zero (x ∷ xs) ys =
    let e : 0 ≡ 0 - suc (length xs) = omega arith in ap (λ (k : ℕ). take k ys) e
take_joined (suc n) (x ∷ xs) ys =
    let e : n - length xs ≡ suc n - suc (length xs) = omega arith in
    ap (λ (l : List ℕ). x ∷ l) (take_joined n xs ys)
    ∙ ap (λ (k : ℕ). (x ∷ take n xs) ++ take k ys) e

-- and all but the first
pub drop_joined : (n : ℕ) (xs ys : List ℕ) → drop n (xs ++ ys) ≡ drop n xs ++ drop (n - length xs) ys
drop_joined zero [] ys = let e : 0 ≡ 0 - 0 = omega arith in ap (λ (k : ℕ). drop k ys) e
drop_joined (suc n) [] ys =
    let e : suc n ≡ suc n - 0 = omega arith in ap (λ (k : ℕ). drop k ys) e
drop_joined zero (x ∷ xs) ys =
    let e : 0 ≡ 0 - suc (length xs) = omega arith in
    ap (λ (k : ℕ). (x ∷ xs) ++ drop k ys) e
drop_joined (suc n) (x ∷ xs) ys =
    let e : n - length xs ≡ suc n - suc (length xs) = omega arith in
    drop_joined n xs ys ∙ ap (λ (k : ℕ). drop n xs ++ drop k ys) e

pub all_passes : AllPasses
all_passes xs = refl

at_most_joined : (most : Option ℕ) (xs ys : List ℕ)
    → at_most most (xs ++ ys) ≡ at_most most xs ++ at_most (fewer most (length xs)) ys
at_most_joined None xs ys = refl
at_most_joined (Some n) xs ys = take_joined n xs ys

pub comes_in_pieces : ComesInPieces
comes_in_pieces w xs ys =
    ap (at_most w.most) (drop_joined w.skip xs ys)
    ∙ at_most_joined w.most (drop w.skip xs) (drop (w.skip - length xs) ys)
    ∙ ap (λ (n : ℕ). window w xs ++ at_most (fewer w.most n) (drop (w.skip - length xs) ys))
    (length-drop w.skip xs)

pub is_prefix : IsPrefix
is_prefix w xs ys = (window (after w (length xs)) ys, comes_in_pieces w xs ys)

fewer_twice : (most : Option ℕ) (m n k : ℕ) → m + n ≡ k → fewer (fewer most m) n ≡ fewer most k
fewer_twice None m n k e = refl
fewer_twice (Some most) m n k e =
    let same : (most - m) - n ≡ most - k = omega (arith, e) in ap (λ (x : ℕ). Some x) same

pub steps_add : StepsAdd
steps_add w m n =
    let skip : (w.skip - m) - n ≡ w.skip - (m + n) = omega arith in
    let most : (m - w.skip) + (n - (w.skip - m)) ≡ (m + n) - w.skip = omega arith in
    ap₂ (λ (s : ℕ) (o : Option ℕ). record { skip = s; most = o }) skip
    (fewer_twice w.most (m - w.skip) (n - (w.skip - m)) ((m + n) - w.skip) most)

fewer_none : (most : Option ℕ) (n : ℕ) → n ≡ 0 → fewer most n ≡ most
fewer_none None n e = refl
fewer_none (Some most) n e = let same : most - n ≡ most = omega (arith, e) in ap (λ (x : ℕ). Some x) same

pub step_of_nothing : StepOfNothing
step_of_nothing w =
    let skip : w.skip - 0 ≡ w.skip = omega arith in
    let none : 0 - w.skip ≡ 0 = omega arith in
    ap₂ (λ (s : ℕ) (o : Option ℕ). record { skip = s; most = o }) skip (fewer_none w.most (0 - w.skip) none)

at_most_long : (most : Option ℕ) (xs : List ℕ) → length (at_most most xs) ≡ at_most_of most (length xs)
at_most_long None xs = refl
at_most_long (Some n) xs = length-take n xs

at_most_few : (most : Option ℕ) (n : ℕ) → at_most_of most n ≤ n
at_most_few None n = omega arith
at_most_few (Some m) n = omega arith

pub is_counted : IsCounted
is_counted w xs =
    let long = at_most_long w.most (drop w.skip xs)
    ∙ ap (at_most_of w.most) (length-drop w.skip xs) in
    let few = at_most_few w.most (length xs - w.skip) in
    (long, omega (arith, long, few))

dropped : (n : ℕ) → ◌≡◌ {A = List ℕ} (drop n []) []
dropped zero = refl
dropped (suc n) = refl

none_of : (most : Option ℕ) → ◌≡◌ {A = List ℕ} (at_most most []) []
none_of None = refl
none_of (Some zero) = refl
none_of (Some (suc n)) = refl

-- of nothing nothing goes through
pub through_none : (w : Window) → window w [] ≡ []
through_none w = ap (at_most w.most) (dropped w.skip) ∙ none_of w.most
