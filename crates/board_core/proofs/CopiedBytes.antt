-- Bytes copied out of two slices, one after another.
use Rattle.std.proofs.Common.{◌≡◌, ℕ, ◌+◌, ◌-◌, ◌≤◌, List, ◌++◌, length, take, drop, min, sym, ap, ap₂, ◌∙◌, arith, append_assoc, length-append, length-drop}
use mathlib.Core.Logic.{dite}
use native.Mathlib.Decide.{dec_le}
use Rattle.std.proofs.lemmas.List.{take-append-le, length-take-le, append-nil}
use Rattle.std.proofs.lemmas.Slice.{drop-append-drop}
use Rattle.std.proofs.Math.Seq.{take-append_seam, take-append-add, take-length}

-- the first n bytes of one slice, and the first m of the next, where m isn't 0 only after all of the first
taken_twice : (f k : List ℕ) (n m : ℕ) → n ≤ length f → (1 ≤ m → n ≡ length f)
    → take n f ++ take m k ≡ take (n + m) (f ++ k)
taken_twice f k n m within full = dite {C = take n f ++ take m k ≡ take (n + m) (f ++ k)} (dec_le 1 m)
    (λ (some : 1 ≤ m).
    let e = full some in
    ap (λ i. take i f ++ take m k) e
    ∙ (ap (λ l. l ++ take m k) (take-length f)
    ∙ (sym (take-append-add f k m) ∙ ap (λ i. take (i + m) (f ++ k)) (sym e))))
    (λ (none : ¬ (1 ≤ m)).
    let m_is : m ≡ 0 = omega arith in
    let n_is : n ≡ n + m = omega arith in
    ap (λ i. take n f ++ take i k) m_is
    ∙ (append-nil (take n f)
    ∙ (sym (take-append-le n f k within) ∙ ap (λ i. take i (f ++ k)) n_is)))

-- bytes copied to the beginning of a slice, and more bytes to the index after them
pub copied_twice : (f k b one two : List ℕ) (n m : ℕ)
    → n ≡ min (length b - 0) (length f) → one ≡ take 0 b ++ (take n f ++ drop (0 + n) b)
    → m ≡ min (length one - n) (length k) → two ≡ take n one ++ (take m k ++ drop (n + m) one)
    → two ≡ take (n + m) (f ++ k) ++ drop (n + m) b
copied_twice f k b one two n m n_is begun m_is ended =
    let within : n ≤ length f = omega arith in
    let long : length (take n f) ≡ n = length-take-le n f within in
    let same : 0 + n ≡ n = omega arith in
    let one_is : one ≡ take n f ++ drop n b = begun ∙ ap (λ i. take n f ++ drop i b) same in
    let size : length one ≡ length b =
    let a = ap length one_is in
    let c = length-append (take n f) (drop n b) in
    let d = length-drop n b in
    omega arith in
    let first : take n one ≡ take n f =
    ap (take n) one_is
    ∙ (ap (λ i. take i (take n f ++ drop n b)) (sym long) ∙ take-append_seam (take n f) (drop n b)) in
    let rest : drop (n + m) one ≡ drop (n + m) b =
    ap (drop (n + m)) one_is ∙ drop-append-drop n b (take n f) (n + m) (omega arith) long in
    let both : take n f ++ take m k ≡ take (n + m) (f ++ k) =
    taken_twice f k n m within (λ some. omega arith) in
    ended
    ∙ (ap₂ (λ x y. x ++ (take m k ++ y)) first rest
    ∙ (sym (append_assoc (take n f) (take m k) (drop (n + m) b)) ∙ ap (λ l. l ++ drop (n + m) b) both))
