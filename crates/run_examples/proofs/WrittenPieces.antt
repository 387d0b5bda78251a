-- Pieces of a text, one after another.
use Rattle.std.proofs.Common.{◌≡◌, ℕ, ◌+◌, ◌≤◌, List, ◌++◌, length, take, drop, sym, ap, ◌∙◌, arith, length-append, length-drop, append_assoc}
use Rattle.std.proofs.Math.Seq.{take-add}
use lib.ListN.{take-append-drop}
use Rattle.std.proofs.lemmas.List.{drop-drop, drop_at, take_at, length-take-le}

module _ (text bytes rest : List ℕ) (written n : ℕ) (next : bytes ++ rest ≡ drop written text)
    (few : n ≤ length bytes) where
  -- what is left, by a first part of the piece
  split : drop written text ≡ take n bytes ++ (drop n bytes ++ rest)
  split =
      sym next ∙ ap (λ (l : List ℕ). l ++ rest) (sym (take-append-drop n bytes))
      ∙ append_assoc (take n bytes) (drop n bytes) rest

  -- it is appended
  pub appended : take (written + n) text ≡ take written text ++ take n bytes
  appended =
      take-add written n text
      ∙ ap (λ (l : List ℕ). take written text ++ l)
      (ap (take n) split ∙ take_at (take n bytes) (drop n bytes ++ rest) n (length-take-le n bytes few))

  -- and the text has room for it
  pub fits : written ≤ length text → written + n ≤ length text
  fits within =
      omega (
        arith,
        ap length next,
        length-append bytes rest,
        length-drop written text,
        few,
        within,
      )

-- then the rest is left
pub left : (text bytes rest : List ℕ) (written n : ℕ) → n ≤ length bytes
    → take n bytes ++ rest ≡ drop written text → rest ≡ drop (written + n) text
left text bytes rest written n few next =
    sym (drop_at (take n bytes) rest n (length-take-le n bytes few))
    ∙ ap (drop n) next ∙ drop-drop n written text
