-- A segment's bytes, from the prefix of what is read.
use Rattle.std.proofs.Common.{◌≡◌, ℕ, suc, ◌+◌, ◌-◌, ◌/◌, ◌%◌, ◌<◌, ◌≤◌, List, [], ◌∷◌, ◌++◌, length, get_or, take, drop, replicate, add-one, ap, sym, ◌∙◌, arith, append_assoc}
use Rattle.std.proofs.lemmas.List.{take-append-drop, length-take-le, replicate_more, take_all, length-drop}
use Rattle.jpeg_marker.specs.MarkerSegments.{two_bytes, number_at}
use Rattle.jpeg_marker.specs.GoodSegments.{stuck_after}

-- a first element, and what follows it
pub prefix_is : (bytes : List ℕ) → 1 ≤ length bytes → bytes ≡ get_or bytes 0 0 ∷ take (length bytes - 1) (drop 1 bytes)
prefix_is [] some = absurd (omega arith)
prefix_is (byte ∷ bytes) some = ap (λ rest. byte ∷ rest) (sym (take_all (suc (length bytes) - 1) bytes (omega arith)))

-- one more byte of 0xff
pub fill_more : (bytes rest tail : List ℕ) (place here : ℕ) → place ≤ here → rest ≡ 255 ∷ tail → bytes ≡ replicate (here - place) 255 ++ rest → bytes ≡ replicate (here + 1 - place) 255 ++ tail
fill_more bytes rest tail place here after is filled =
    filled ∙ ap (λ back. replicate (here - place) 255 ++ back) is ∙ sym (append_assoc (replicate (here - place) 255) (255 ∷ []) tail) ∙ ap (λ prefix. prefix ++ tail) (replicate_more (here - place) 255) ∙ ap (λ n. replicate n 255 ++ tail) (omega arith)

pub stuck_more : (rest tail : List ℕ) (here : ℕ) → rest ≡ 255 ∷ tail → stuck_after (here + 1) tail ≡ stuck_after here rest
stuck_more rest tail here is = sym (ap (stuck_after here) is)

two_more : (n : ℕ) → 2 ≤ n → n ≡ suc (suc (n - 2))
two_more n h = omega arith

-- what a length counts, and what follows
pub body_text : (bytes : List ℕ) (n : ℕ) → ((i : ℕ) → get_or bytes i 0 < 256) → 2 ≤ n → n ≤ length bytes → n ≡ number_at bytes → bytes ≡ two_bytes (length (take (n - 2) (drop 2 bytes)) + 2) ++ take (n - 2) (drop 2 bytes) ++ take (length bytes - n) (drop n bytes)
body_text [] n small two within is = absurd (omega arith)
body_text (high ∷ []) n small two within is = absurd (omega arith)
body_text (high ∷ low ∷ bytes) n small two within is =
    let counted : length (take (n - 2) bytes) + 2 ≡ n = omega (arith, length-take-le (n - 2) bytes (omega arith)) in
    let first : n / 256 ≡ high = omega (arith, small 0, small 1) in
    let second : n % 256 ≡ low = omega (arith, small 0, small 1) in
    let past : drop n (high ∷ low ∷ bytes) ≡ drop (n - 2) bytes = ap (λ k. drop k (high ∷ low ∷ bytes)) (two_more n two) in
    let all : take (suc (suc (length bytes)) - n) (drop (n - 2) bytes) ≡ drop (n - 2) bytes = take_all _ _ (omega (arith, length-drop (n - 2) bytes)) in
    rw (counted, first, second, past, all) (ap (λ rest. high ∷ low ∷ rest) (sym (take-append-drop (n - 2) bytes)))

-- a segment's bytes, from its parts
pub stands_text : (bytes after marked tail body rest : List ℕ) (fill code n : ℕ) → bytes ≡ 255 ∷ after → after ≡ replicate fill 255 ++ marked → marked ≡ code ∷ tail → tail ≡ two_bytes n ++ body ++ rest → bytes ≡ replicate (fill + 1) 255 ++ code ∷ two_bytes n ++ body ++ rest
stands_text bytes after marked tail body rest fill code n first filled coded counted =
    first ∙ ap (λ x. 255 ∷ x) (filled ∙ ap (λ x. replicate fill 255 ++ x) (coded ∙ ap (λ x. code ∷ x) counted)) ∙ simp (append_assoc, add-one)
