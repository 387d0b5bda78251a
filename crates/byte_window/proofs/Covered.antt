-- What the parts with a place in a slice give of it.
use Rattle.std.proofs.Common.{◌≡◌, ℕ, ◌+◌, ◌-◌, ◌<◌, ◌≤◌, min, max, List, [], length, take, drop, ap, ap₂, subst, ◌∙◌, arith, Some}
use Rattle.byte_window.specs.Windows.{window}
use Rattle.byte_window.specs.Slices.{Rises, slice, has_place, cover_of}
use Rattle.byte_window.proofs.SliceParts.{slice_is_window, slice_within}
use Rattle.byte_window.proofs.Covers.{cover_is_exact, cover_has_slice, nothing_covered, rising}

-- the slice of a list that has its parts at these places is a window on the parts that have a place in it
pub covered_is_window : (starts : ℕ → ℕ) (count a b : ℕ) (xs : List ℕ) → Rises starts count
    → starts count ≡ starts 0 + length xs
    → (cover_of starts count a b).from < (cover_of starts count a b).to
    → let c = cover_of starts count a b in
    slice (a - starts 0) (b - starts 0) xs
    ≡ window (record {
      skip = a - starts c.from;
      most = Some (min b (starts c.to) - max a (starts c.from));
    }) (slice (starts c.from - starts 0) (starts c.to - starts 0) xs)
covered_is_window starts count a b xs up end some =
    let h = starts 0 in
    let c = cover_of starts count a b in
    let k = cover_is_exact (has_place starts a b) count in
    let fits = (k.some some).2 in
    let s = cover_has_slice starts count a b up some in
    let low = s.0 in
    let high = s.1 in
    let from : 0 + c.from ≡ c.from = omega arith in
    let first = subst (λ (n : ℕ). starts 0 ≤ starts n) from
    (rising starts count 0 c.from up (omega (arith, some, fits))) in
    let to : c.to + (count - c.to) ≡ count = omega (arith, fits) in
    let last = subst (λ (n : ℕ). starts c.to ≤ starts n) to
    (rising starts count c.to (count - c.to) up (omega (arith, to))) in
    let in_order : c.from + (c.to - c.from) ≡ c.to = omega (arith, some) in
    let order = subst (λ (n : ℕ). starts c.from ≤ starts n) in_order
    (rising starts count c.from (c.to - c.from) up (omega (arith, in_order, fits))) in
    let skip : (a - h) - (starts c.from - h) ≡ a - starts c.from = omega (arith, first) in
    let most : min (b - h) (length xs) - (a - h) ≡ min b (starts c.to) - max a (starts c.from) =
    omega (arith, first, last, low, high, end) in
    slice_is_window (a - h) (b - h) (starts c.from - h) (starts c.to - h) xs
    (omega (arith, low)) (omega (arith, high, end))
    ∙ ap₂ (λ (s m : ℕ). window (record { skip = s; most = Some m })
    (slice (starts c.from - h) (starts c.to - h) xs)) skip most

-- and nothing if no part has one
pub uncovered_is_nothing : (starts : ℕ → ℕ) (count a b : ℕ) (xs : List ℕ) → Rises starts count
    → starts count ≡ starts 0 + length xs
    → (cover_of starts count a b).from ≡ (cover_of starts count a b).to
    → slice (a - starts 0) (b - starts 0) xs ≡ []
uncovered_is_nothing starts count a b xs up end same =
    let h = starts 0 in
    let past = nothing_covered starts count a b up same in
    let none : min (b - h) (length xs) - (a - h) ≡ 0 = omega (arith, past, end) in
    slice_within (a - h) (b - h) xs ∙ ap (λ (n : ℕ). take n (drop (a - h) xs)) none
