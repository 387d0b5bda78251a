-- Parts of a list that have a place in a slice.
use Rattle.std.proofs.Common.{◌≡◌, ℕ, zero, suc, ◌+◌, ◌-◌, ◌<◌, ◌≤◌, min, max, Bool, true, false, refl, sym, ap, subst, ◌∙◌, arith, ⊎_elim, ◌⊎◌, inl, inr}
use Rattle.std.specs.Prelude.{◌==◌, nat_lt, if◌then◌else◌}
use Rattle.std.proofs.lemmas.Bool.{cases_lt}
use Rattle.std.proofs.lemmas.Bool.Decides.{nat_tests}
use Rattle.byte_window.specs.Slices.{Cover, Rises, has_place, with_part, cover, cover_of}
use Rattle.byte_window.specs.SliceLaws.{IsCover, CoverIsExact}

-- one more part
with_one : (met : ℕ → Bool) (count : ℕ) (c : Cover) (is : Bool) → met count ≡ is → IsCover met count c
    → IsCover met (suc count) (with_part c count is)
with_one met count c false e k = record {
  all = λ i low m. before i low m (cases_lt i count);
  some = λ s. let b = k.some s in (b.0, b.1, (let n = b.2 in omega (arith, n)));
  order = k.order;
  none = k.none;
} where
  before : (i : ℕ) → i < suc count → met i ≡ true → (i < count) ⊎ (count ≤ i)
      → (c.from ≤ i) × (i < c.to)
  before i low m (inl under) = k.all i under m
  before i low m (inr last) =
      let same : i ≡ count = omega (arith, low, last) in
      absurd (let no : true ≡ false = sym m ∙ ap met same ∙ e in cc)
with_one met count c true e k = by_first (c.from == c.to) refl where
  to_within : c.to ≤ count
  to_within = ⊎_elim (λ (s : c.from < c.to). (k.some s).2)
      (λ (h : c.to ≤ c.from).
      let o = k.order in let same : c.from ≡ c.to = omega (arith, o, h) in
      let z = (k.none same).1 in omega (arith, z)) (cases_lt c.from c.to)

  by_first : (b : Bool) → (c.from == c.to) ≡ b
      → IsCover met (suc count) (record { from = if b then count else c.from; to = count + 1 })
  by_first true t =
      let same : c.from ≡ c.to = grind (arith, nat_tests) in
      let z = k.none same in record {
        all = λ i low m. first i low m (cases_lt i count);
        some = λ s.
            let back : count + 1 - 1 ≡ count = omega arith in
            (e, ap met back ∙ e, omega arith);
        order = omega arith;
        none = λ s. absurd (omega (arith, s));
      } where
        first : (i : ℕ) → i < suc count → met i ≡ true → (i < count) ⊎ (count ≤ i)
            → (count ≤ i) × (i < count + 1)
        first i low m (inl under) =
            let in_it = k.all i under m in
            let same : c.from ≡ c.to = grind (arith, nat_tests) in
            let a = in_it.0 in let b = in_it.1 in
            absurd (omega (arith, a, b, same))
        first i low m (inr last) = (last, omega (arith, low))
  by_first false f =
      let o = k.order in
      let some : c.from < c.to = grind (arith, nat_tests) in
      let ends = k.some some in record {
        all = λ i low m. more i low m (cases_lt i count);
        some = λ s.
            let back : count + 1 - 1 ≡ count = omega arith in
            (ends.0, ap met back ∙ e, omega arith);
        order = omega (arith, some, to_within);
        none = λ s. absurd (omega (arith, s, some, to_within));
      } where
        more : (i : ℕ) → i < suc count → met i ≡ true → (i < count) ⊎ (count ≤ i)
            → (c.from ≤ i) × (i < count + 1)
        more i low m (inl under) =
            let in_it = k.all i under m in let a = in_it.0 in (a, omega (arith, low))
        more i low m (inr last) =
            let o = k.order in (omega (arith, o, to_within, last), omega (arith, low))

pub cover_is_exact : CoverIsExact
cover_is_exact met zero = record {
  all = λ i low m. absurd (omega (arith, low));
  some = λ s. absurd (omega (arith, s));
  order = omega arith;
  none = λ s. (refl, refl);
}
cover_is_exact met (suc count) =
    with_one met count (cover met count) (met count) refl (cover_is_exact met count)

-- and its parts are some of those
pub cover_fits : (met : ℕ → Bool) (count : ℕ)
    → ((cover met count).from ≤ (cover met count).to) × ((cover met count).to ≤ count)
cover_fits met count =
    let c = cover met count in
    let k = cover_is_exact met count in
    let order = k.order in (
      order,
      ⊎_elim (λ (some : c.from < c.to). (k.some some).2)
          (λ (h : c.to ≤ c.from).
          let z = (k.none (omega (arith, order, h))).1 in omega (arith, z))
          (cases_lt c.from c.to),
    )

-- a part without a place
unmet : (a b x y : ℕ) → nat_lt (max a x) (min b y) ≡ false → min b y ≤ max a x
unmet a b x y e = grind (arith, nat_tests)

-- and one with a place
pub met_there : (a b x y : ℕ) → nat_lt (max a x) (min b y) ≡ true → max a x < min b y
met_there a b x y e = grind (arith, nat_tests)

either : (b : Bool) → (b ≡ true) ⊎ (b ≡ false)
either true = inl refl
either false = inr refl

-- starts don't fall
pub rising : (starts : ℕ → ℕ) (count i n : ℕ) → Rises starts count → i + n ≤ count → starts i ≤ starts (i + n)
rising starts count i zero up h =
    let e : i ≡ i + 0 = omega arith in subst (λ (k : ℕ). starts i ≤ starts k) e (omega arith)
rising starts count i (suc n) up h =
    let one = rising starts count i n up (omega (arith, h)) in
    let next = up (i + n) (omega (arith, h)) in
    let e : (i + n) + 1 ≡ i + suc n = omega arith in
    subst (λ (k : ℕ). starts i ≤ starts k) e (omega (arith, one, next))

-- from the first part on, as long as no part has a place, none starts after a
low_ones : (starts : ℕ → ℕ) (a b n : ℕ)
    → ((i : ℕ) → i < n → has_place starts a b i ≡ false)
    → (starts n ≤ max a (starts 0)) ⊎ (b ≤ max a (starts 0))
low_ones starts a b zero none = inl (omega arith)
low_ones starts a b (suc n) none =
    next (low_ones starts a b n (λ i h. none i (omega (arith, h)))) where
      e : n + 1 ≡ suc n
      e = omega arith

      u : min b (starts (n + 1)) ≤ max a (starts n)
      u = unmet a b (starts n) (starts (n + 1)) (none n (omega arith))

      next : (starts n ≤ max a (starts 0)) ⊎ (b ≤ max a (starts 0))
          → (starts (suc n) ≤ max a (starts 0)) ⊎ (b ≤ max a (starts 0))
      next (inr past) = inr past
      next (inl low) =
          ⊎_elim (λ (h : starts (n + 1) < b).
          inl (subst (λ (k : ℕ). starts k ≤ max a (starts 0)) e (omega (arith, u, low, h))))
          (λ (h : b ≤ starts (n + 1)). inr (omega (arith, u, low, h)))
          (cases_lt (starts (n + 1)) b)

-- from the last part on
high_ones : (starts : ℕ → ℕ) (a b to n : ℕ)
    → ((i : ℕ) → to ≤ i → i < to + n → has_place starts a b i ≡ false)
    → (min b (starts (to + n)) ≤ starts to) ⊎ (min b (starts (to + n)) ≤ a)
high_ones starts a b to zero none =
    let e : to ≡ to + 0 = omega arith in
    inl (subst (λ (k : ℕ). min b (starts k) ≤ starts to) e (omega arith))
high_ones starts a b to (suc n) none =
    ⊎_elim (λ (h : min b (starts (to + n)) ≤ starts to). next h)
    (λ (h : min b (starts (to + n)) ≤ a). later h)
    (high_ones starts a b to n (λ i low high. none i low (omega (arith, high)))) where
      e : (to + n) + 1 ≡ to + suc n
      e = omega arith

      u : min b (starts ((to + n) + 1)) ≤ max a (starts (to + n))
      u = unmet a b (starts (to + n)) (starts ((to + n) + 1)) (none (to + n) (omega arith) (omega arith))

      moved : (min b (starts ((to + n) + 1)) ≤ starts to) ⊎ (min b (starts ((to + n) + 1)) ≤ a)
          → (min b (starts (to + suc n)) ≤ starts to) ⊎ (min b (starts (to + suc n)) ≤ a)
      moved either_one =
          subst (λ (k : ℕ). (min b (starts k) ≤ starts to) ⊎ (min b (starts k) ≤ a)) e either_one

      next : min b (starts (to + n)) ≤ starts to
          → (min b (starts (to + suc n)) ≤ starts to) ⊎ (min b (starts (to + suc n)) ≤ a)
      next low =
          moved (⊎_elim (λ (h : starts to < min b (starts ((to + n) + 1))).
          inr (omega (arith, h, u, low)))
          (λ (h : min b (starts ((to + n) + 1)) ≤ starts to). inl h)
          (cases_lt (starts to) (min b (starts ((to + n) + 1)))))

      later : min b (starts (to + n)) ≤ a
          → (min b (starts (to + suc n)) ≤ starts to) ⊎ (min b (starts (to + suc n)) ≤ a)
      later low = moved (inr (omega (arith, u, low)))

-- if no part has a place from a to before b, there is no place of the list in between
pub nothing_covered : (starts : ℕ → ℕ) (count a b : ℕ) → Rises starts count
    → (cover_of starts count a b).from ≡ (cover_of starts count a b).to
    → min b (starts count) ≤ max a (starts 0)
nothing_covered starts count a b up same =
    ⊎_elim (λ (low : starts count ≤ max a (starts 0)). omega (arith, low))
    (λ (past : b ≤ max a (starts 0)). omega (arith, past))
    (low_ones starts a b count none) where
      k : IsCover (has_place starts a b) count (cover_of starts count a b)
      k = cover_is_exact (has_place starts a b) count

      none : (i : ℕ) → i < count → has_place starts a b i ≡ false
      none i low =
          ⊎_elim (λ (met : has_place starts a b i ≡ true).
          let in_it = k.all i low met in
          let x = in_it.0 in let y = in_it.1 in absurd (omega (arith, x, y, same)))
          (λ (un : has_place starts a b i ≡ false). un) (either (has_place starts a b i))

-- and if some have one, these hold all places of the list in between
pub cover_has_slice : (starts : ℕ → ℕ) (count a b : ℕ) → Rises starts count
    → (cover_of starts count a b).from < (cover_of starts count a b).to
    → (starts (cover_of starts count a b).from ≤ max a (starts 0))
    × (min b (starts count) ≤ starts (cover_of starts count a b).to)
cover_has_slice starts count a b up some = (low, high) where
  c : Cover
  c = cover_of starts count a b

  k : IsCover (has_place starts a b) count c
  k = cover_is_exact (has_place starts a b) count

  ends : (has_place starts a b c.from ≡ true) × (has_place starts a b (c.to - 1) ≡ true)
      × (c.to ≤ count)
  ends = k.some some

  first : max a (starts c.from) < min b (starts (c.from + 1))
  first = met_there a b (starts c.from) (starts (c.from + 1)) ends.0

  unmet_there : (i : ℕ) → i < count → (i < c.from) ⊎ (c.to ≤ i) → has_place starts a b i ≡ false
  unmet_there i within out =
      ⊎_elim (λ (met : has_place starts a b i ≡ true).
      let in_it = k.all i within met in
      let x = in_it.0 in let y = in_it.1 in
      absurd (⊎_elim (λ (h : i < c.from). omega (arith, x, h)) (λ (h : c.to ≤ i). omega (arith, y, h)) out))
      (λ (un : has_place starts a b i ≡ false). un) (either (has_place starts a b i))

  low : starts c.from ≤ max a (starts 0)
  low =
      ⊎_elim (λ (h : starts c.from ≤ max a (starts 0)). h)
      (λ (past : b ≤ max a (starts 0)).
      let fits = ends.2 in
      let e : 0 + c.from ≡ c.from = omega arith in
      let rise = subst (λ (n : ℕ). starts 0 ≤ starts n) e
      (rising starts count 0 c.from up (omega (arith, some, fits))) in
      absurd (omega (arith, first, past, rise)))
      (low_ones starts a b c.from
      (λ i h. let fits = ends.2 in unmet_there i (omega (arith, h, some, fits)) (inl h)))

  back : (c.to - 1) + 1 ≡ c.to
  back = omega (arith, some)

  last : max a (starts (c.to - 1)) < min b (starts c.to)
  last = subst (λ (n : ℕ). max a (starts (c.to - 1)) < min b (starts n)) back
      (met_there a b (starts (c.to - 1)) (starts ((c.to - 1) + 1)) ends.1)

  end : c.to + (count - c.to) ≡ count
  end = let fits = ends.2 in omega (arith, fits)

  high : min b (starts count) ≤ starts c.to
  high =
      ⊎_elim (λ (h : min b (starts (c.to + (count - c.to))) ≤ starts c.to).
      subst (λ (n : ℕ). min b (starts n) ≤ starts c.to) end h)
      (λ (h : min b (starts (c.to + (count - c.to))) ≤ a).
      let under = subst (λ (n : ℕ). min b (starts n) ≤ a) end h in
      let rise = subst (λ (n : ℕ). starts c.to ≤ starts n) end
      (rising starts count c.to (count - c.to) up (omega (arith, end))) in
      absurd (omega (arith, last, under, rise)))
      (high_ones starts a b c.to (count - c.to)
      (λ i from h. unmet_there i (omega (arith, h, end)) (inr from)))
