-- Slices of lists.
use Rattle.std.proofs.Common.{◌≡◌, ℕ, zero, suc, ◌+◌, ◌-◌, ◌<◌, ◌≤◌, List, [], ◌∷◌, ◌++◌, length, take, drop, min, refl, sym, ap, ap₂, ◌∙◌, arith, take-add, ⊎_elim}
use Rattle.std.proofs.lemmas.Bool.{cases_lt}
use Rattle.std.proofs.lemmas.List.{length-take, length-drop, drop-drop, take-take, take_min}
use Rattle.byte_window.specs.Slices.{slice}
use Rattle.byte_window.specs.SliceLaws.{SliceOfParts, SliceIsWindow, SlicesJoin, MostIsCounted}
use Rattle.byte_window.proofs.WindowParts.{take_joined, drop_joined}

pub most_is_counted : MostIsCounted
most_is_counted a b xs = length-drop a (take b xs) ∙ ap (λ (n : ℕ). n - a) (length-take b xs)

-- what a slice is after its list's end
none_past : (a b : ℕ) (xs : List ℕ) → a - length (take b xs) ≡ a - min b (length xs)
none_past a b xs = ap (λ (n : ℕ). a - n) (length-take b xs)

take_nothing : (n : ℕ) → ◌≡◌ {A = List ℕ} (take n []) []
take_nothing zero = refl
take_nothing (suc n) = refl

-- from the first place of a slice on, as many items as it has
pub slice_is_taken : (a b : ℕ) (xs : List ℕ) → slice a b xs ≡ take (b - a) (drop a xs)
slice_is_taken zero b xs = let e : b ≡ b - 0 = omega arith in ap (λ (k : ℕ). take k xs) e
slice_is_taken (suc a) zero xs =
    let e : 0 ≡ 0 - suc a = omega arith in
    ap (λ (k : ℕ). take k (drop (suc a) xs)) e
slice_is_taken (suc a) (suc b) [] = sym (take_nothing (suc b - suc a))
slice_is_taken (suc a) (suc b) (x ∷ xs) =
    let e : b - a ≡ suc b - suc a = omega arith in
    slice_is_taken a b xs ∙ ap (λ (k : ℕ). take k (drop a xs)) e

-- a slice of no place
pub no_slice : (a : ℕ) (xs : List ℕ) → slice a a xs ≡ []
no_slice a xs =
    let none : a - a ≡ 0 = omega arith in
    slice_is_taken a a xs ∙ ap (λ (n : ℕ). take n (drop a xs)) none

pub slice_of_parts : SliceOfParts
slice_of_parts a b xs ys =
    ap (drop a) (take_joined b xs ys)
    ∙ drop_joined a (take b xs) (take (b - length xs) ys)
    ∙ ap (λ (l : List ℕ). slice a b xs ++ l) (tail a b xs ys) where
      tail : (a b : ℕ) (xs ys : List ℕ)
          → drop (a - length (take b xs)) (take (b - length xs) ys)
          ≡ slice (a - length xs) (b - length xs) ys
      tail a b xs ys =
          ⊎_elim (λ (short : b < length xs).
          let none : b - length xs ≡ 0 = omega (arith, short) in
          ap₂ (λ (m n : ℕ). drop m (take n ys)) (none_past a b xs) none
          ∙ dropped (a - min b (length xs)) ∙ sym (dropped (a - length xs))
          ∙ ap (λ (n : ℕ). drop (a - length xs) (take n ys)) (sym none))
          (λ (long : length xs ≤ b).
          let same : min b (length xs) ≡ length xs = omega (arith, long) in
          ap (λ (m : ℕ). drop m (take (b - length xs) ys)) (none_past a b xs ∙ ap (λ (n : ℕ). a - n) same))
          (cases_lt b (length xs)) where
            dropped : (n : ℕ) → drop n (take 0 ys) ≡ []
            dropped zero = refl
            dropped (suc n) = refl

-- a slice has no more than the list
pub slice_within : (a b : ℕ) (xs : List ℕ) → slice a b xs ≡ take (min b (length xs) - a) (drop a xs)
slice_within a b xs =
    let long = length-drop a xs in
    let count : min (b - a) (length (drop a xs)) ≡ min b (length xs) - a = omega (arith, long) in
    slice_is_taken a b xs ∙ sym (take_min (b - a) (drop a xs))
    ∙ ap (λ (n : ℕ). take n (drop a xs)) count

pub slice_is_window : SliceIsWindow
slice_is_window a b p q xs low high =
    let n : ℕ = min b (length xs) - a in
    let from : p + (a - p) ≡ a = omega (arith, low) in
    let few : n ≤ q - a = omega (arith, high) in
    let rest : drop (a - p) (slice p q xs) ≡ take (q - a) (drop a xs) =
    drop-drop (a - p) p (take q xs) ∙ ap (λ (k : ℕ). drop k (take q xs)) from
    ∙ slice_is_taken a q xs in
    slice_within a b xs
    ∙ sym (take-take n (q - a) (drop a xs) few) ∙ ap (take n) (sym rest)

pub slices_join : SlicesJoin
slices_join a b c xs first second =
    let m : ℕ = b - a in
    let n : ℕ = c - b in
    let all : m + n ≡ c - a = omega (arith, first, second) in
    let to : a + m ≡ b = omega (arith, first) in
    ap₂ (λ (x y : List ℕ). x ++ y) (slice_is_taken a b xs)
    (slice_is_taken b c xs
    ∙ ap (take n) (ap (λ (k : ℕ). drop k xs) (sym to) ∙ sym (drop-drop m a xs)))
    ∙ sym (take-add m n (drop a xs)) ∙ ap (λ (k : ℕ). take k (drop a xs)) all
    ∙ sym (slice_is_taken a c xs)
