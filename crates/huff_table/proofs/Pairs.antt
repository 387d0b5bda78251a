-- Words that are found in a list, and what holds of each of them and of any two.
use Rattle.std.proofs.Common.{◌≡◌, ◌⊎◌, Bool, true, false, cond, List, [], ◌∷◌, ◌++◌, Some, refl, sym, ap, ◌∙◌, subst, inl, inr}
use Rattle.std.specs.List.{AllByRecursion, find}
use Rattle.std.proofs.lemmas.Option.{same_Some}

pub all-append : {X : Type 0} (P : X → Type 0) (xs ys : List X) → AllByRecursion P xs → AllByRecursion P ys → AllByRecursion P (xs ++ ys)
all-append P [] ys p q = q
all-append P (x ∷ xs) ys p q = (p.0, all-append P xs ys p.1 q)

pub all_weaker : {X : Type 0} (P Q : X → Type 0) → ((x : X) → P x → Q x) → (xs : List X) → AllByRecursion P xs → AllByRecursion Q xs
all_weaker P Q weaker [] all = tt
all_weaker P Q weaker (x ∷ xs) all = (weaker x all.0, all_weaker P Q weaker xs all.1)

-- each stands so to those after it
abbrev pub Pairs : {X : Type 0} → (X → X → Type 0) → List X → Type 0
Pairs R [] = Prim.Unit {0}
Pairs R (x ∷ xs) = AllByRecursion (R x) xs × Pairs R xs

pub pairs-append : {X : Type 0} (R : X → X → Type 0) (xs ys : List X) → Pairs R xs → Pairs R ys → AllByRecursion (λ x. AllByRecursion (R x) ys) xs → Pairs R (xs ++ ys)
pairs-append R [] ys p q cross = q
pairs-append R (x ∷ xs) ys p q cross = (all-append (R x) xs ys p.0 cross.0, pairs-append R xs ys p.1 q cross.1)

-- what is found: it passes, and holds what all do
abbrev Found : {X : Type 0} → (X → Bool) → List X → X → Type 0
Found {X} p xs a = find p xs ≡ Some a

pub found_cases : {X : Type 0} (p : X → Bool) (x a : X) (xs : List X) → find p (x ∷ xs) ≡ Some a → ((p x ≡ true) × (x ≡ a)) ⊎ ((p x ≡ false) × (find p xs ≡ Some a))
found_cases {X} p x a xs e =
    let Q : Bool → Type 0 = λ test. p x ≡ test → cond test (Some x) (find p xs) ≡ Some a → ((p x ≡ true) × (x ≡ a)) ⊎ ((p x ≡ false) × (find p xs ≡ Some a)) in
    (elim (p x) as Q [ true ↦ λ t e. inl (t, same_Some _ _ e) | false ↦ λ t e. inr (t, e) ]) refl e

pub found_passes : {X : Type 0} (p : X → Bool) (a : X) (xs : List X) → find p xs ≡ Some a → p a ≡ true
found_passes p a [] e = absurd (cc)
found_passes {X} p a (x ∷ xs) e = elim (found_cases p x a xs e) [ inl here ↦ subst (λ (y : X). p y ≡ true) here.1 here.0 | inr later ↦ found_passes p a xs later.1 ]

pub found_holds : {X : Type 0} (P : X → Type 0) (p : X → Bool) (a : X) (xs : List X) → AllByRecursion P xs → find p xs ≡ Some a → P a
found_holds P p a [] all e = absurd (cc)
found_holds P p a (x ∷ xs) all e = elim (found_cases p x a xs e) [ inl here ↦ subst P here.1 all.0 | inr later ↦ found_holds P p a xs all.1 later.1 ]

-- where one is found that another test passes too, that test finds one
pub found_too : {X : Type 0} (p q : X → Bool) (a : X) (xs : List X) → find p xs ≡ Some a → q a ≡ true → (b : X) × (find q xs ≡ Some b)
found_too p q a [] e t = absurd (cc)
found_too {X} p q a (x ∷ xs) e t =
    let Q : Bool → Type 0 = λ test. q x ≡ test → (b : X) × (cond test (Some x) (find q xs) ≡ Some b) in
    (elim (q x) as Q [
      | true ↦ λ _. (x, refl)
      | false ↦ λ f. elim (found_cases p x a xs e) [ inl here ↦ absurd (let f' = sym (ap q here.1) ∙ f in let t' = sym t ∙ f' in (cc)) | inr later ↦ found_too p q a xs later.1 t ]
    ]) refl

-- any two that are found
pub two_found : {X : Type 0} (R : X → X → Type 0) (p q : X → Bool) (a b : X) (xs : List X) → Pairs R xs → find p xs ≡ Some a → find q xs ≡ Some b → (a ≡ b) ⊎ (R a b ⊎ R b a)
two_found R p q a b [] pairs e f = absurd (cc)
two_found {X} R p q a b (x ∷ xs) pairs e f =
    elim (found_cases p x a xs e) [
      | inl here ↦ elim (found_cases q x b xs f) [
        | inl there ↦ inl (sym here.1 ∙ there.1)
        | inr later ↦ inr (inl (subst (λ (y : X). R y b) here.1 (found_holds (R x) q b xs pairs.0 later.1)))
      ]
      | inr before ↦ elim (found_cases q x b xs f) [
        | inl there ↦ inr (inr (subst (λ (y : X). R y a) there.1 (found_holds (R x) p a xs pairs.0 before.1)))
        | inr later ↦ two_found R p q a b xs pairs.1 before.1 later.1
      ]
    ]
