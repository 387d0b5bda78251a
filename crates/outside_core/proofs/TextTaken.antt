-- What a sink takes once some bytes are written.
use Rattle.std.proofs.Common.{◌≡◌, ℕ, ◌+◌, List, ◌++◌, take, drop, subst, sym, ap, ◌∙◌, append_assoc}
use Rattle.std.proofs.Math.Seq.{take-add}
use lib.ListN.{take-append-drop}
use Rattle.std.proofs.lemmas.List.{drop-drop}
use Rattle.outside_core.specs.Takes.{MovesOn, TakesNext}

module _ {Sink : Type 0} (takes : Sink → List ℕ → Type 0) where
  -- the bytes after the first `n`
  pub next_on : (old new : Sink) (bytes : List ℕ) (n : ℕ) → TakesNext takes old bytes
      → MovesOn takes old new (take n bytes) → TakesNext takes new (drop n bytes)
  next_on old new bytes n next onward =
      let rest = next.0 in
      let split : bytes ++ rest ≡ take n bytes ++ (drop n bytes ++ rest) =
      ap (λ (l : List ℕ). l ++ rest) (sym (take-append-drop n bytes))
      ∙ append_assoc (take n bytes) (drop n bytes) rest in
      (rest, onward (drop n bytes ++ rest) (subst (takes old) split next.1))

  -- bytes, and then others
  pub moves_later : (old mid new : Sink) (first more : List ℕ) → MovesOn takes old mid first
      → MovesOn takes mid new more → MovesOn takes old new (first ++ more)
  moves_later old mid new first more p q = λ rest t.
      q rest (p (more ++ rest) (subst (takes old) (append_assoc first more rest) t))

  -- the first `written` bytes were written, and then `n` more
  pub next_after : (old new : Sink) (bytes : List ℕ) (written n : ℕ) → TakesNext takes old (drop written bytes)
      → MovesOn takes old new (take n (drop written bytes)) → TakesNext takes new (drop (written + n) bytes)
  next_after old new bytes written n next onward =
      subst (TakesNext takes new) (drop-drop n written bytes) (next_on old new (drop written bytes) n next onward)

  pub onward_later : (old mid new : Sink) (bytes : List ℕ) (written n : ℕ) → MovesOn takes old mid (take written bytes)
      → MovesOn takes mid new (take n (drop written bytes)) → MovesOn takes old new (take (written + n) bytes)
  onward_later old mid new bytes written n p q =
      subst (MovesOn takes old new) (sym (take-add written n bytes)) (moves_later old mid new _ _ p q)
