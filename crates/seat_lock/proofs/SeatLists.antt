-- Lists in which one entry is replaced or added.
use Rattle.std.proofs.Common.{◌≡◌, ℕ, zero, suc, ◌≢◌, ◌⊎◌, List, [], ◌∷◌, ◌++◌, length, set, sym, refl, ap, inl, inr, ⊎_elim, arith}
use mathlib.Core.Option.{some, some-injective, some-ne-none}
use lib.ListN.{get_elem?}

module _ {A : Type 0} where
  -- the entry that was put is there
  pub set_at : (l : List A) (i : ℕ) (a b : A) → get_elem? l i ≡ some a → get_elem? (set l i b) i ≡ some b
  set_at [] i a b e = absurd (some-ne-none a (sym e))
  set_at (x ∷ xs) zero a b e = refl
  set_at (x ∷ xs) (suc i) a b e = set_at xs i a b e

  -- what is put twice is put once
  pub set_twice : (l : List A) (i : ℕ) (a b : A) → set (set l i a) i b ≡ set l i b
  set_twice [] i a b = refl
  set_twice (x ∷ xs) zero a b = refl
  set_twice (x ∷ xs) (suc i) a b = λ k. x ∷ set_twice xs i a b k

  -- entries at two indices are put in either order
  pub set_across : (l : List A) (i j : ℕ) (a b : A) → i ≢ j → set (set l i a) j b ≡ set (set l j b) i a
  set_across [] i j a b ne = refl
  set_across (x ∷ xs) zero zero a b ne = absurd (ne refl)
  set_across (x ∷ xs) zero (suc j) a b ne = refl
  set_across (x ∷ xs) (suc i) zero a b ne = refl
  set_across (x ∷ xs) (suc i) (suc j) a b ne = λ k. x ∷ set_across xs i j a b (λ e. ne (ap suc e)) k

  -- an entry of the first part of a list is put into that part
  pub set_prefix : (l m : List A) (i : ℕ) (a b : A) → get_elem? l i ≡ some a → set (l ++ m) i b ≡ set l i b ++ m
  set_prefix [] m i a b e = absurd (some-ne-none a (sym e))
  set_prefix (x ∷ xs) m zero a b e = refl
  set_prefix (x ∷ xs) m (suc i) a b e = λ k. x ∷ set_prefix xs m i a b e k

  -- an entry is one of the first part's, or the one that was added, at its end
  pub at_end : (l : List A) (a b : A) (j : ℕ) → get_elem? (l ++ a ∷ []) j ≡ some b
      → (get_elem? l j ≡ some b) ⊎ ((j ≡ length l) × (a ≡ b))
  at_end [] a b zero e = inr (refl, some-injective a b e)
  at_end [] a b (suc j) e = absurd (some-ne-none b (sym e))
  at_end (x ∷ xs) a b zero e = inl e
  at_end (x ∷ xs) a b (suc j) e =
      ⊎_elim (λ t. inl t) (λ (t : (j ≡ length xs) × (a ≡ b)). inr (ap suc t.0, t.1)) (at_end xs a b j e)

  -- what is at an index of a list of one entry is that entry
  pub in_one : (d e : A) (k : ℕ) → get_elem? (d ∷ []) k ≡ some e → d ≡ e
  in_one d e zero at = some-injective d e at
  in_one d e (suc k) at = absurd (some-ne-none e (sym at))

  -- a list of length 1 is its first entry
  pub only_one : (ds : List A) (d : A) → get_elem? ds 0 ≡ some d → length ds ≡ 1 → ds ≡ d ∷ []
  only_one [] d at one = absurd (some-ne-none d (sym at))
  only_one (x ∷ []) d at one = ap (λ y. y ∷ []) (some-injective x d at)
  only_one (x ∷ y ∷ xs) d at one = absurd (omega arith)
