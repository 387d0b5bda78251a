-- One place more.
use Rattle.std.proofs.Common.{◌≡◌, ℕ, ◌+◌, ◌-◌, ◌<◌, ◌≤◌, Bool, true, false, zero, suc, refl, ap, ap₂, ◌∙◌, sym, arith, List, [], ◌∷◌, ◌++◌, length, get_or, take, drop, append_assoc, set, ◌≢◌}
use Rattle.std.specs.Prelude.{ℤ, pos, unsigned_abs, if◌then◌else◌, ◌==◌}
use Rattle.std.proofs.lemmas.Bool.Decides.{nat_tests}
use Rattle.std.proofs.lemmas.List.{append-nil, take_more_set, take_more, drop_more, length-drop, length-take-le, take-append-drop}
use Rattle.coef_context.specs.ValueBins.{ValueBins}
use Rattle.block_spec.specs.Values.{category_of, is_zero, nonzeros, one_events, values_events}
use Rattle.block_spec.proofs.CategoryBits.{category_some, zero_abs}
use Rattle.block_spec.proofs.ValuesApart.{nonzeros_le}

abbrev pub after : ℕ → ℤ → ℕ
after remain x = if is_zero x then remain else remain - 1

abbrev pub one : ℤ → ℕ
one x = if is_zero x then 0 else 1

-- the values so far, where what remains is counted down
abbrev pub values_from : (ℕ → ℕ → ValueBins) → ℕ → ℕ → ℕ → List ℤ → List (ℕ × Bool)
values_from at places place remain [] = []
values_from at places place remain (x ∷ xs) = one_events (at place remain) remain (places - place) x ++ values_from at places (place + 1) (after remain x) xs

after_rest : (remain : ℕ) (x : ℤ) (rest : ℕ) → one x + rest ≡ remain → after remain x ≡ rest
after_rest remain x rest e = elim (is_zero x) as (λ t. (if t then 0 else 1) + rest ≡ remain → (if t then remain else remain - 1) ≡ rest) [ true ↦ λ h. omega arith | false ↦ λ h. omega arith ] e

pub from_is : (at : ℕ → ℕ → ValueBins) (places place remain : ℕ) (xs : List ℤ) → places ≡ place + length xs → remain ≡ nonzeros xs → values_from at places place remain xs ≡ values_events at place xs
unfolding values_events
from_is at places place remain [] long count = refl
from_is at places place remain (x ∷ xs) long count =
    let here : places - place ≡ length (x ∷ xs) = omega (arith, long) in
    let rest = from_is at places (place + 1) (after remain x) xs (omega (arith, long)) (after_rest remain x (nonzeros xs) (sym count)) in
    ap (λ (es : List (ℕ × Bool)). one_events (at place remain) remain (places - place) x ++ es) rest
    ∙ ap (λ (n : ℕ). one_events (at place remain) remain n x ++ values_events at (place + 1) xs) here
    ∙ ap (λ (n : ℕ). one_events (at place n) n (length (x ∷ xs)) x ++ values_events at (place + 1) xs) count

after_is : (remain k : ℕ) (x : ℤ) → after remain x - k ≡ remain - (one x + k)
after_is remain k x = elim (is_zero x) as (λ t. (if t then remain else remain - 1) - k ≡ remain - ((if t then 0 else 1) + k)) [ true ↦ omega arith | false ↦ omega arith ]

pub from_push : (at : ℕ → ℕ → ValueBins) (places place remain : ℕ) (xs : List ℤ) (x : ℤ) →
    values_from at places place remain (xs ++ x ∷ []) ≡ values_from at places place remain xs ++ one_events (at (place + length xs) (remain - nonzeros xs)) (remain - nonzeros xs) (places - (place + length xs)) x
from_push at places place remain [] x =
    let p : place + 0 ≡ place = omega arith in
    let l : remain - 0 ≡ remain = omega arith in
    rw (p, l) (append-nil (one_events (at place remain) remain (places - place) x))
from_push at places place remain (y ∷ xs) x =
    let p : place + 1 + length xs ≡ place + suc (length xs) = omega arith in
    ap (λ es. one_events (at place remain) remain (places - place) y ++ es) (from_push at places (place + 1) (after remain y) xs x ∙ rw (p, after_is remain (nonzeros xs) y) refl)
    ∙ sym (append_assoc (one_events (at place remain) remain (places - place) y) (values_from at places (place + 1) (after remain y) xs) (one_events (at (place + suc (length xs)) (remain - nonzeros (y ∷ xs))) (remain - nonzeros (y ∷ xs)) (places - (place + suc (length xs))) x))

nonzeros_push : (xs : List ℤ) (x : ℤ) → nonzeros (xs ++ x ∷ []) ≡ nonzeros xs + one x
nonzeros_push [] x = omega arith
nonzeros_push (y ∷ xs) x = let e = nonzeros_push xs x in omega (arith, e)

none_left : (x : ℤ) (rest : ℕ) → one x + rest ≡ 0 → x ≡ pos 0
none_left x rest e = elim (is_zero x) as (λ t. is_zero x ≡ t → (if t then 0 else 1) + rest ≡ 0 → x ≡ pos 0)
    [ true ↦ λ h k. zero_abs x (grind (arith, nat_tests)) | false ↦ λ h k. absurd (omega arith) ] refl e

rest_is : (n : ℕ) (w : List ℤ) (place remain : ℕ) → length w ≡ n → place < n → nonzeros (drop place w) ≡ remain → one (get_or w place (pos 0)) + nonzeros (drop (place + 1) w) ≡ remain
rest_is n w place remain long within counted =
    let short : place < length w = omega (arith, long) in
    sym (ap nonzeros (drop_more w place (pos 0) short)) ∙ counted

one_when : (x : ℤ) → 1 ≤ one x → 1 ≤ category_of x
one_when x some = elim (is_zero x) as (λ t. is_zero x ≡ t → 1 ≤ (if t then 0 else 1) → 1 ≤ category_of x) [ true ↦ λ h k. absurd (omega arith) | false ↦ λ h k. category_some (unsigned_abs x) (grind (arith, nat_tests)) ] refl some

abbrev pub Kept : ℕ → ℕ → List ℤ → List ℤ → Type 0
Kept place remain out w = (take place out ≡ take place w) × (nonzeros (drop place w) ≡ remain)

-- a value that isn't 0 if all that are left aren't
pub all_left : (n : ℕ) (w : List ℤ) (place remain : ℕ) → length w ≡ n → place < n → 1 ≤ remain → nonzeros (drop place w) ≡ remain → remain ≡ n - place → 1 ≤ category_of (get_or w place (pos 0))
all_left n w place remain long within some counted e =
    let split = rest_is n w place remain long within counted in
    let l = length-drop (place + 1) w in
    let h = nonzeros_le (drop (place + 1) w) in
    one_when (get_or w place (pos 0)) (omega (arith, split, l, h, long, e))

-- a value is 0 if none is left
pub zero_here : (n : ℕ) (w : List ℤ) (place : ℕ) → length w ≡ n → place < n → nonzeros (drop place w) ≡ 0 → get_or w place (pos 0) ≡ pos 0
zero_here n w place long within none = none_left (get_or w place (pos 0)) (nonzeros (drop (place + 1) w)) (rest_is n w place 0 long within none)

zero_size : (x : ℤ) → is_zero x ≡ true → category_of x ≡ 0
zero_size x h = let z : unsigned_abs x ≡ 0 = grind (arith, nat_tests) in ap category_of (zero_abs x z)

pub codes_more : (n : ℕ) (at : ℕ → ℕ → ValueBins) (count remain place : ℕ) (out : List ℤ) (x : ℤ) → length out ≡ n → place < n → remain + nonzeros (take place out) ≡ count →
    values_from at n 0 count (take place out) ++ one_events (at place remain) remain (n - place) x ≡ values_from at n 0 count (take (place + 1) (set out place x))
codes_more n at count remain place out x long within sum =
    let l : length (take place out) ≡ place = length-take-le place out (omega (arith, long)) in
    let p : 0 + length (take place out) ≡ place = omega (arith, l) in
    let k : count - nonzeros (take place out) ≡ remain = omega (arith, sum) in
    sym (ap (values_from at n 0 count) (take_more_set out place x (omega (arith, long))) ∙ from_push at n 0 count (take place out) x ∙ rw (p, k) refl)

pub sum_more : (n count remain place : ℕ) (out : List ℤ) (x : ℤ) → length out ≡ n → place < n → 1 ≤ remain → remain + nonzeros (take place out) ≡ count → after remain x + nonzeros (take (place + 1) (set out place x)) ≡ count
sum_more n count remain place out x long within some sum =
    let e : nonzeros (take (place + 1) (set out place x)) ≡ nonzeros (take place out) + one x = ap nonzeros (take_more_set out place x (omega (arith, long))) ∙ nonzeros_push (take place out) x in
    rw e
    (elim (is_zero x) as (λ t. (if t then remain else remain - 1) + (nonzeros (take place out) + (if t then 0 else 1)) ≡ count)
    [ true ↦ omega arith | false ↦ omega arith ])

not_full : (n remain place : ℕ) (x : ℤ) → place < n → is_zero x ≡ true → (remain ≡ n - place → 1 ≤ category_of x) → place + remain ≤ n → place + 1 + remain ≤ n
not_full n remain place x within h full fits =
    elim (remain == (n - place)) as (λ t. remain == (n - place) ≡ t → place + 1 + remain ≤ n) [
      | true ↦ λ e. let same : remain ≡ n - place = grind (arith, nat_tests) in
          let s = full same in absurd (omega (arith, s, zero_size x h))
      | false ↦ λ e. let other : remain ≢ n - place = grind (arith, nat_tests) in omega arith
    ] refl

pub fits_more : (n remain place : ℕ) (x : ℤ) → place < n → 1 ≤ remain → (remain ≡ n - place → 1 ≤ category_of x) → place + remain ≤ n → place + 1 + after remain x ≤ n
fits_more n remain place x within some full fits =
    elim (is_zero x) as (λ t. is_zero x ≡ t → place + 1 + (if t then remain else remain - 1) ≤ n) [
      | true ↦ λ h. not_full n remain place x within h full fits
      | false ↦ λ h. omega arith
    ] refl

pub same_more : (n : ℕ) (w : List ℤ) (remain place : ℕ) (out : List ℤ) (x : ℤ) → length out ≡ n → place < n → length w ≡ n → x ≡ get_or w place (pos 0) → Kept place remain out w → Kept (place + 1) (after remain x) (set out place x) w
same_more n w remain place out x long within wide asked kept =
    let split = rest_is n w place remain wide within kept.1 in (
      take_more_set out place x (omega (arith, long)) ∙ ap (λ (xs : List ℤ). xs ++ x ∷ []) kept.0 ∙ ap (λ (y : ℤ). take place w ++ y ∷ []) asked ∙ sym (take_more w place (pos 0) (omega (arith, wide))),
      rw asked (sym (after_rest remain (get_or w place (pos 0)) (nonzeros (drop (place + 1) w)) split)),
    )

none_after_suc : (place : ℕ) (x : ℤ) (xs : List ℤ) → nonzeros (drop place xs) ≡ 0 → nonzeros (drop (suc place) (set xs place x)) ≡ 0
none_after_suc zero x [] none = refl
none_after_suc zero x (y ∷ xs) none = omega (arith, none)
none_after_suc (suc place) x [] none = refl
none_after_suc (suc place) x (y ∷ xs) none = none_after_suc place x xs none

-- no value is left after a place either
pub none_after : (place : ℕ) (x : ℤ) (xs : List ℤ) → nonzeros (drop place xs) ≡ 0 → nonzeros (drop (place + 1) (set xs place x)) ≡ 0
none_after place x xs none = let e : place + 1 ≡ suc place = omega arith in rw e (none_after_suc place x xs none)

-- nothing is coded if none is left
none_coded : (at : ℕ → ℕ → ValueBins) (places place : ℕ) (xs : List ℤ) → nonzeros xs ≡ 0 → values_from at places place 0 xs ≡ []
none_coded at places place [] none = refl
none_coded at places place (x ∷ xs) none =
    let rest : nonzeros xs ≡ 0 = omega (arith, none) in
    let still : after 0 x ≡ 0 = after_rest 0 x 0 (omega (arith, none)) in
    ap (λ (n : ℕ). values_from at places (place + 1) n xs) still ∙ none_coded at places (place + 1) xs rest

-- so the values up to the last that isn't 0 are enough
up_to_last : (at : ℕ → ℕ → ValueBins) (places place remain k : ℕ) (xs : List ℤ) → nonzeros (take k xs) ≡ remain → nonzeros (drop k xs) ≡ 0 → values_from at places place remain (take k xs) ≡ values_from at places place remain xs
up_to_last at places place remain zero xs counted none =
    sym (ap (λ (n : ℕ). values_from at places place n xs) (sym counted) ∙ none_coded at places place xs none)
up_to_last at places place remain (suc k) [] counted none = refl
up_to_last at places place remain (suc k) (x ∷ xs) counted none =
    ap (λ (es : List (ℕ × Bool)). one_events (at place remain) remain (places - place) x ++ es)
    (up_to_last at places (place + 1) (after remain x) k xs (sym (after_rest remain x (nonzeros (take k xs)) counted)) none)

nonzeros_split : (k : ℕ) (xs : List ℤ) → nonzeros (take k xs) + nonzeros (drop k xs) ≡ nonzeros xs
nonzeros_split zero xs = omega arith
nonzeros_split (suc k) [] = refl
nonzeros_split (suc k) (x ∷ xs) = let e = nonzeros_split k xs in omega (arith, e)

pub all_counted : (count place : ℕ) (xs : List ℤ) → 0 + nonzeros (take place xs) ≡ count → nonzeros (drop place xs) ≡ 0 → nonzeros xs ≡ count
all_counted count place xs sum none = let e = nonzeros_split place xs in omega (arith, e, sum, none)

pub all_coded : (n : ℕ) (at : ℕ → ℕ → ValueBins) (count place : ℕ) (xs : List ℤ) → length xs ≡ n → 0 + nonzeros (take place xs) ≡ count → nonzeros (drop place xs) ≡ 0 →
    values_from at n 0 count (take place xs) ≡ values_events at 0 xs
all_coded n at count place xs long sum none =
    let all = all_counted count place xs sum none in
    up_to_last at n 0 count place xs (omega (arith, sum)) none ∙ from_is at n 0 count xs (omega (arith, long)) (sym all)

both_zeros : (xs ys : List ℤ) → length xs ≡ length ys → nonzeros xs ≡ 0 → nonzeros ys ≡ 0 → xs ≡ ys
both_zeros [] [] long a b = refl
both_zeros [] (y ∷ ys) long a b = absurd (omega (arith, long))
both_zeros (x ∷ xs) [] long a b = absurd (omega (arith, long))
both_zeros (x ∷ xs) (y ∷ ys) long a b =
    let e = none_left x (nonzeros xs) a in
    let f = none_left y (nonzeros ys) b in
    ap₂ (λ (z : ℤ) (zs : List ℤ). z ∷ zs) (e ∙ sym f) (both_zeros xs ys (omega (arith, long)) (omega (arith, a)) (omega (arith, b)))

-- the values that were coded and the zeros after them
pub all_same : (n place : ℕ) (xs w : List ℤ) → length xs ≡ n → length w ≡ n → nonzeros (drop place xs) ≡ 0 → Kept place 0 xs w → xs ≡ w
all_same n place xs w long wide none kept =
    let a = length-drop place xs in
    let b = length-drop place w in
    let rest = both_zeros (drop place xs) (drop place w) (omega (arith, a, b, long, wide)) none kept.1 in
    sym (take-append-drop place xs) ∙ ap₂ (λ (a b : List ℤ). a ++ b) kept.0 rest ∙ take-append-drop place w
