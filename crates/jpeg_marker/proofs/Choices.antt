-- Some of a frame's components, in its order.
use Rattle.std.proofs.Common.{◌≡◌, ℕ, zero, suc, ◌+◌, ◌<◌, ◌≤◌, Bool, true, false, ◌&&◌, not, List, [], ◌∷◌, length, get_or, drop, map, fold, max, Option, Some, None, option_map, refl, ap, sym, ◌∙◌, arith, cond, eqb, leb, ltb, inl, inr, drop-cons, add-one, subst, ◌⊎◌, sum_by}
use Rattle.std.specs.List.{list_all, list_any, AllByRecursion}
use Rattle.std.proofs.lemmas.Bool.{leb-true, ltb-true, eqb-true, le-leb, lt-ltb}
use Rattle.std.proofs.lemmas.Bool.Decides.{nat_tests}
use Rattle.std.proofs.lemmas.List.{length-drop, length-map}
use Rattle.std.proofs.lemmas.List.Sums.{sum_by-cons}
use Rattle.jpeg_marker.specs.declared.parameters.FrameComponent.{FrameComponent}
use Rattle.jpeg_marker.specs.declared.parameters.ScanComponent.{ScanComponent}
use Rattle.jpeg_marker.specs.HuffmanTables.{distinct}
use Rattle.jpeg_marker.specs.Frames.{no_part, area, is_sampled, fit_an_mcu, are_components}
use Rattle.jpeg_marker.specs.Plans.{indexes_from, are_indexes, parts_at, largest, IsWithin}
use Rattle.jpeg_marker.proofs.Repeats.{both_hold, not_holds, neither}

-- indexes in their order, from one on and below another
abbrev pub Rising : ℕ → ℕ → List ℕ → Type 0
Rising from below [] = Unit {0}
Rising from below (i ∷ is) = (from ≤ i) × (i < below) × Rising (i + 1) below is

pub rising_is : (from below : ℕ) (is : List ℕ) → are_indexes from below is ≡ true → Rising from below is
rising_is from below [] h = tt
rising_is from below (i ∷ is) h =
    let a = both_hold (leb from i && ltb i below) (are_indexes (i + 1) below is) h in
    let b = both_hold (leb from i) (ltb i below) a.0 in
    (leb-true from i b.0, ltb-true i below b.1, rising_is (i + 1) below is a.1)

pub rising_test : (from below : ℕ) (is : List ℕ) → Rising from below is → are_indexes from below is ≡ true
rising_test from below [] h = refl
rising_test from below (i ∷ is) h = rw (le-leb from i h.0, lt-ltb i below h.1, rising_test (i + 1) below is h.2) refl

pub rising_more : (from below more : ℕ) (is : List ℕ) → below ≤ more → Rising from below is → Rising from more is
rising_more from below more [] le h = tt
rising_more from below more (i ∷ is) le h = (h.0, omega (arith, h.1), rising_more (i + 1) below more is le h.2)

rising_from : (from least below : ℕ) (is : List ℕ) → least ≤ from → Rising from below is → Rising least below is
rising_from from least below [] le h = tt
rising_from from least below (i ∷ is) le h = (omega (arith, h.0), h.1, h.2)

-- each is below the bound
pub rising_each : (from below : ℕ) (is : List ℕ) (j : ℕ) → Rising from below is → j < length is → get_or is j 0 < below
rising_each from below [] j h within = absurd (omega arith)
rising_each from below (i ∷ is) zero h within = h.1
rising_each from below (i ∷ is) (suc j) h within = rising_each (i + 1) below is j h.2 (omega arith)

-- there are no more of them than there is room for
pub rising_few : (from below : ℕ) (is : List ℕ) → from ≤ below → Rising from below is → from + length is ≤ below
rising_few from below [] le h = omega arith
rising_few from below (i ∷ is) le h = let a = h.0 in let b = h.1 in let c = rising_few (i + 1) below is (omega arith) h.2 in omega arith

pub some_is_one : {A : Type 0} (x y : A) → Some x ≡ Some y → x ≡ y
some_is_one x y e = cc

-- the indexes that a scan names
record AreNamed (index count size : ℕ) (is : List ℕ) : Type 0 where
  rising : Rising index (index + count) is
  long : length is ≡ size

named_first : (index count size : ℕ) (rest : Option (List ℕ)) (is : List ℕ) → ((others : List ℕ) → rest ≡ Some others → AreNamed (index + 1) count size others) → option_map (λ others. index ∷ others) rest ≡ Some is → AreNamed index (suc count) (suc size) is
named_first index count size None is so e = cc
named_first index count size (Some others) is so e =
    let named = so others refl in
    let all : AreNamed index (suc count) (suc size) (index ∷ others) = record {
      rising = (omega arith, omega arith, subst (λ (b : ℕ). Rising (index + 1) b others) (omega arith) named.rising);
      long = ap suc named.long;
    } in
    subst (AreNamed index (suc count) (suc size)) (some_is_one (index ∷ others) is e) all

named_later : (index count size : ℕ) (is : List ℕ) → AreNamed (index + 1) count size is → AreNamed index (suc count) size is
named_later index count size is named = record {
  rising = rising_from (index + 1) index (index + suc count) is (omega arith) (subst (λ (b : ℕ). Rising (index + 1) b is) (omega arith) named.rising);
  long = named.long;
}

named_by : (b : Bool) (index count size : ℕ) (here later : Option (List ℕ)) (is : List ℕ) → (here ≡ Some is → AreNamed index (suc count) size is) → (later ≡ Some is → AreNamed index (suc count) size is) → cond b here later ≡ Some is → AreNamed index (suc count) size is
named_by true index count size here later is h l e = h e
named_by false index count size here later is h l e = l e

named : (index : ℕ) (parts : List FrameComponent) (selectors : List ScanComponent) (is : List ℕ) → indexes_from index parts selectors ≡ Some is → AreNamed index (length parts) (length selectors) is
named index [] [] is e = subst (AreNamed index 0 0) (some_is_one [] is e) (record { rising = tt; long = refl })
named index (p ∷ parts) [] is e = subst (AreNamed index (suc (length parts)) 0) (some_is_one [] is e) (record { rising = tt; long = refl })
named index [] (s ∷ selectors) is e = cc
named index (p ∷ parts) (s ∷ selectors) is e =
    named_by (eqb p.id s.id) index (length parts) (suc (length selectors)) (option_map (λ others. index ∷ others) (indexes_from (index + 1) parts selectors)) (indexes_from (index + 1) parts (s ∷ selectors)) is
    (λ h. named_first index (length parts) (length selectors) (indexes_from (index + 1) parts selectors) is (λ others o. named (index + 1) parts selectors others o) h)
    (λ l. named_later index (length parts) (suc (length selectors)) is (named (index + 1) parts (s ∷ selectors) is l))
    e

pub named_rising : (parts : List FrameComponent) (selectors : List ScanComponent) (is : List ℕ) → indexes_from 0 parts selectors ≡ Some is → are_indexes 0 (length parts) is ≡ true
named_rising parts selectors is e =
    let h = (named 0 parts selectors is e).rising in
    rising_test 0 (length parts) is (subst (λ (b : ℕ). Rising 0 b is) (omega arith) h)

pub named_long : (parts : List FrameComponent) (selectors : List ScanComponent) (is : List ℕ) → indexes_from 0 parts selectors ≡ Some is → length is ≡ length selectors
named_long parts selectors is e = (named 0 parts selectors is e).long

-- elements of a list in its order
abbrev Sub : List FrameComponent → List FrameComponent → Type 0
Sub [] ys = Unit {0}
Sub (x ∷ xs) [] = ⊥
Sub (x ∷ xs) (y ∷ ys) = ((x ≡ y) × Sub xs ys) ⊎ Sub (x ∷ xs) ys

either_by : {A B : Type 0} (b : Bool) → (b ≡ true → A) → (b ≡ false → B) → A ⊎ B
either_by true f g = inl (f refl)
either_by false f g = inr (g refl)

later_than : (i k : ℕ) → k ≤ i → eqb i k ≡ false → k < i
later_than i k le other = grind (arith, nat_tests)

sub_at : (parts ys : List FrameComponent) (k : ℕ) (is : List ℕ) (from : ℕ) → ys ≡ drop k parts → k ≤ from → Rising from (length parts) is → Sub (parts_at parts is) ys
sub_at parts [] k [] from e le h = tt
sub_at parts (y ∷ ys) k [] from e le h = tt
sub_at parts [] k (i ∷ is) from e le h = let a = h.0 in let b = h.1 in let c = ap length e in absurd (omega (arith, length-drop k parts))
sub_at parts (y ∷ ys) k (i ∷ is) from e le h =
    let below : k < length parts = let c = ap length e in omega (arith, length-drop k parts) in
    let split : y ∷ ys ≡ get_or parts k no_part ∷ drop (suc k) parts = e ∙ drop-cons parts k no_part below in
    let first : y ≡ get_or parts k no_part = cc in
    let after : ys ≡ drop (suc k) parts = cc in
    let rest : ys ≡ drop (k + 1) parts = after ∙ ap (λ n. drop n parts) (sym (add-one k)) in
    either_by (eqb i k)
    (λ here. let is_k : i ≡ k = eqb-true i k here in
    (ap (λ n. get_or parts n no_part) is_k ∙ sym first, sub_at parts ys (k + 1) is (i + 1) rest (omega (arith, is_k)) h.2))
    (λ other. let later = later_than i k (omega (arith, h.0)) other in
    sub_at parts ys (k + 1) (i ∷ is) i rest (omega (arith, later)) (omega arith, h.1, h.2))

sub_of : (parts : List FrameComponent) (is : List ℕ) → Rising 0 (length parts) is → Sub (parts_at parts is) parts
sub_of parts is h = sub_at parts parts 0 is 0 refl (omega arith) h

-- what holds of each of a list holds of each of those
sub_each : (P : FrameComponent → Type 0) (xs ys : List FrameComponent) → Sub xs ys → AllByRecursion P ys → AllByRecursion P xs
sub_each P [] ys sub all = tt
sub_each P (x ∷ xs) [] sub all = absurd sub
sub_each P (x ∷ xs) (y ∷ ys) (inl s) all = (subst P (sym s.0) all.0, sub_each P xs ys s.1 all.1)
sub_each P (x ∷ xs) (y ∷ ys) (inr s) all = sub_each P (x ∷ xs) ys s all.1

all_test : (test : FrameComponent → Bool) (xs : List FrameComponent) → list_all test xs ≡ true → AllByRecursion (λ x. test x ≡ true) xs
all_test test [] h = tt
all_test test (x ∷ xs) h = let both = both_hold (test x) (list_all test xs) h in (both.0, all_test test xs both.1)

test_all : (test : FrameComponent → Bool) (xs : List FrameComponent) → AllByRecursion (λ x. test x ≡ true) xs → list_all test xs ≡ true
test_all test [] h = refl
test_all test (x ∷ xs) h = rw (h.0, test_all test xs h.1) refl

-- no more of them, of no more blocks
sub_long : (xs ys : List FrameComponent) → Sub xs ys → length xs ≤ length ys
sub_long [] ys sub = omega arith
sub_long (x ∷ xs) [] sub = absurd sub
sub_long (x ∷ xs) (y ∷ ys) (inl s) = let h = sub_long xs ys s.1 in omega arith
sub_long (x ∷ xs) (y ∷ ys) (inr s) = let h = sub_long (x ∷ xs) ys s in omega arith

sub_sum : (xs ys : List FrameComponent) → Sub xs ys → sum_by area xs ≤ sum_by area ys
sub_sum [] ys sub = omega arith
sub_sum (x ∷ xs) [] sub = absurd sub
sub_sum (x ∷ xs) (y ∷ ys) (inl s) =
    let h = sub_sum xs ys s.1 in
    let same = ap area s.0 in
    omega (arith, sum_by-cons area x xs, sum_by-cons area y ys)
sub_sum (x ∷ xs) (y ∷ ys) (inr s) = let h = sub_sum (x ∷ xs) ys s in omega (arith, sum_by-cons area y ys)

-- identifiers that differ
abbrev ids : List FrameComponent → List ℕ
ids xs = map (λ (p : FrameComponent). p.id) xs

sub_none : (n : ℕ) (xs ys : List FrameComponent) → Sub xs ys → list_any (eqb n) (ids ys) ≡ false → list_any (eqb n) (ids xs) ≡ false
sub_none n [] ys sub none = refl
sub_none n (x ∷ xs) [] sub none = absurd sub
sub_none n (x ∷ xs) (y ∷ ys) (inl s) none =
    let both = neither (eqb n y.id) (list_any (eqb n) (ids ys)) none in
    rw (ap (λ (p : FrameComponent). eqb n p.id) s.0 ∙ both.0, sub_none n xs ys s.1 both.1) refl
sub_none n (x ∷ xs) (y ∷ ys) (inr s) none =
    let both = neither (eqb n y.id) (list_any (eqb n) (ids ys)) none in
    sub_none n (x ∷ xs) ys s both.1

sub_distinct : (xs ys : List FrameComponent) → Sub xs ys → distinct (ids ys) ≡ true → distinct (ids xs) ≡ true
sub_distinct [] ys sub once = refl
sub_distinct (x ∷ xs) [] sub once = absurd sub
sub_distinct (x ∷ xs) (y ∷ ys) (inl s) once =
    let both = both_hold (not (list_any (eqb y.id) (ids ys))) (distinct (ids ys)) once in
    let none : list_any (eqb x.id) (ids xs) ≡ false = sub_none x.id xs ys s.1 (ap (λ (p : FrameComponent). list_any (eqb p.id) (ids ys)) s.0 ∙ not_holds _ both.0) in
    rw (none, sub_distinct xs ys s.1 both.1) refl
sub_distinct (x ∷ xs) (y ∷ ys) (inr s) once =
    let both = both_hold (not (list_any (eqb y.id) (ids ys))) (distinct (ids ys)) once in
    sub_distinct (x ∷ xs) ys s both.1

sub_fit : (xs ys : List FrameComponent) → Sub xs ys → 1 ≤ length xs → fit_an_mcu ys ≡ true → fit_an_mcu xs ≡ true
sub_fit xs ys sub some fit =
    let long = sub_long xs ys sub in
    let sum = sub_sum xs ys sub in
    grind (arith, nat_tests)

-- some of the components that a frame may have are some that a frame may have
pub chosen_are : (parts : List FrameComponent) (is : List ℕ) → 1 ≤ length is → are_indexes 0 (length parts) is ≡ true → are_components parts ≡ true → are_components (parts_at parts is) ≡ true
chosen_are parts is some rising are =
    let sub = sub_of parts is (rising_is 0 (length parts) is rising) in
    let xs = parts_at parts is in
    let long : 1 ≤ length xs = simp length-map some in
    let a = both_hold (distinct (ids parts) && list_all is_sampled parts) (fit_an_mcu parts) are in
    let b = both_hold (distinct (ids parts)) (list_all is_sampled parts) a.0 in
    rw (sub_distinct xs parts sub b.0, test_all is_sampled xs (sub_each (λ p. is_sampled p ≡ true) xs parts sub (all_test is_sampled parts b.1)), sub_fit xs parts sub long a.1) refl

-- a factor is at most the largest one
abbrev most_from : (FrameComponent → ℕ) → ℕ → List FrameComponent → ℕ
most_from factor most parts = fold (λ m p. max m (factor p)) most parts

most_start : (factor : FrameComponent → ℕ) (parts : List FrameComponent) (most : ℕ) → most ≤ most_from factor most parts
most_start factor [] most = omega arith
most_start factor (p ∷ parts) most = let h = most_start factor parts (max most (factor p)) in omega arith

most_each : (factor : FrameComponent → ℕ) (parts : List FrameComponent) (most : ℕ) → AllByRecursion (λ p. factor p ≤ most_from factor most parts) parts
most_each factor [] most = tt
most_each factor (p ∷ parts) most =
    let h = most_start factor parts (max most (factor p)) in
    (omega arith, most_each factor parts (max most (factor p)))

all_both : (P Q R : FrameComponent → Type 0) (xs : List FrameComponent) → ((x : FrameComponent) → P x → Q x → R x) → AllByRecursion P xs → AllByRecursion Q xs → AllByRecursion R xs
all_both P Q R [] f p q = tt
all_both P Q R (x ∷ xs) f p q = (f x p.0 q.0, all_both P Q R xs f p.1 q.1)

-- what the sampling factors of a component are
record HasFactors (p : FrameComponent) : Type 0 where
  wide : 1 ≤ p.h
  high : 1 ≤ p.v

factors_of : (p : FrameComponent) → is_sampled p ≡ true → HasFactors p
factors_of p is = record { wide = grind (arith, nat_tests); high = grind (arith, nat_tests) }

-- and those of some of a frame's components are within the largest ones
pub chosen_within : (parts : List FrameComponent) (is : List ℕ) → are_indexes 0 (length parts) is ≡ true → are_components parts ≡ true → AllByRecursion (IsWithin parts) (parts_at parts is)
chosen_within parts is rising are =
    let sub = sub_of parts is (rising_is 0 (length parts) is rising) in
    let a = both_hold (distinct (ids parts) && list_all is_sampled parts) (fit_an_mcu parts) are in
    let b = both_hold (distinct (ids parts)) (list_all is_sampled parts) a.0 in
    let wide = most_each (λ p. p.h) parts 1 in
    let high = most_each (λ p. p.v) parts 1 in
    let both = all_both (λ p. p.h ≤ largest (λ q. q.h) parts) (λ p. p.v ≤ largest (λ q. q.v) parts) (λ p. (p.h ≤ largest (λ q. q.h) parts) × (p.v ≤ largest (λ q. q.v) parts)) parts (λ p n l. (n, l)) wide high in
    sub_each (IsWithin parts) (parts_at parts is) parts sub
    (all_both (λ p. is_sampled p ≡ true) (λ p. (p.h ≤ largest (λ q. q.h) parts) × (p.v ≤ largest (λ q. q.v) parts)) (IsWithin parts) parts
    (λ p s m. let f = factors_of p s in record { wide = f.wide; narrow = m.0; high = f.high; low = m.1 })
    (all_test is_sampled parts b.1) both)
