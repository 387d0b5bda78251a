-- Of two prefixes of one list, one is a prefix of the other.
use Rattle.std.proofs.Common.{◌≡◌, ◌⊎◌, List, [], ◌∷◌, ◌++◌, inl, inr, refl, sym, ◌∙◌, ap, ⊎_elim}
use Rattle.blob_store.specs.Journals.{StartsWith}

heads : {A : Type 0} (x y : A) (xs ys : List A) → x ∷ xs ≡ y ∷ ys → (x ≡ y) × (xs ≡ ys)
heads x y xs ys e = (cc e, cc e)

pub begins : {A : Type 0} (xs ys a b : List A) → xs ++ a ≡ ys ++ b → StartsWith ys xs ⊎ StartsWith xs ys
begins [] ys a b e = inl (ys, refl)
begins (x ∷ xs) [] a b e = inr (x ∷ xs, refl)
begins (x ∷ xs) (y ∷ ys) a b e =
    let h = heads x y (xs ++ a) (ys ++ b) e in
    ⊎_elim
    (λ (s : StartsWith ys xs). inl (s.0, ap (λ l. y ∷ l) s.1 ∙ ap (λ z. z ∷ (xs ++ s.0)) (sym h.0)))
    (λ (s : StartsWith xs ys). inr (s.0, ap (λ l. x ∷ l) s.1 ∙ ap (λ z. z ∷ (ys ++ s.0)) h.0))
    (begins xs ys a b h.1)
