-- Lists of values and edges are spelled by their events.
use Rattle.std.proofs.Common.{◌≡◌, ℕ, zero, suc, ◌+◌, ◌-◌, ◌<◌, ◌≤◌, Bool, true, false, List, [], ◌∷◌, ◌++◌, length, replicate, refl, sym, ap, ap₂, ◌∙◌, subst, arith, ◌≢◌, ℤ, pos, unsigned_abs, append-nil}
use Rattle.std.specs.Prelude.{◌==◌, if◌then◌else◌}
use Rattle.std.specs.List.{AllByRecursion}
use Rattle.std.proofs.lemmas.Bool.Decides.{nat_tests}
use Rattle.coef_block.specs.Categories.{category}
use Rattle.coef_context.specs.BinNumbers.{bin_number}
use Rattle.coef_context.specs.declared.context.Context.TheVariants.{EdgeCount}
use Rattle.coef_context.specs.ValueBins.{ValueBins}
use Rattle.block_spec.specs.Values.{category_of, is_zero, nonzeros, value_events, count_events, one_events, values_events}
use Rattle.block_spec.specs.Around.{Around}
use Rattle.block_spec.specs.BlockEvents.{edge_bins, edge_events}
use Rattle.block_spec.proofs.ValuesApart.{IsTen}
use Rattle.block_spec.specs.Asking.{Asked, Told, then_ask}
use Rattle.block_spec.specs.AskedBlocks.{asked_count, asked_value, asked_values, asked_edge}
use Rattle.block_spec.proofs.Spelling.{Events, Spells, parted, told_last}
use Rattle.block_spec.proofs.NumbersSpelled.{count_spelled}
use Rattle.block_spec.proofs.ValuesSpelled.{IsValue, value_spelled}

-- values, of which some are not 0
pub record AreValues (bins : ℕ → ℕ → ValueBins) (place left remain : ℕ) (xs : List ℤ)
    (events : Events) : Type 0 where
  pub long : length xs ≡ left
  pub count : nonzeros xs ≡ remain
  pub tens : AllByRecursion IsTen xs
  pub is : events ≡ values_events bins place xs

zeros_count : (n : ℕ) → nonzeros (replicate n (pos 0)) ≡ 0
zeros_count zero = refl
zeros_count (suc n) = let h = zeros_count n in omega (arith, h)

zeros_tens : (n : ℕ) → AllByRecursion IsTen (replicate n (pos 0))
zeros_tens zero = tt
zeros_tens (suc n) = (omega arith, zeros_tens n)

zeros_length : (n : ℕ) → length (replicate n (pos 0)) ≡ n
zeros_length zero = refl
zeros_length (suc n) = ap suc (zeros_length n)

zeros_events : (bins : ℕ → ℕ → ValueBins) (place n : ℕ)
    → [] ≡ values_events bins place (replicate n (pos 0))
unfolding values_events
zeros_events bins place zero = refl
zeros_events bins place (suc n) =
    let zeros = zeros_count n in
    let none : 0 + nonzeros (replicate n (pos 0)) ≡ 0 = omega (arith, zeros) in
    rw none (zeros_events bins (place + 1) n)

abbrev first_of : ℕ → ℕ → ℕ
first_of remain left = if remain == left then 1 else 0

one_zero : (x : ℤ) → nonzeros (x ∷ []) ≤ 1
one_zero x =
    elim (is_zero x) as (λ t. (if t then 0 else 1) + 0 ≤ 1)
    [ true ↦ omega arith | false ↦ omega arith ]

nonzero_one : (x : ℤ) → 1 ≤ category_of x → nonzeros (x ∷ []) ≡ 1
nonzero_one x some = elim (is_zero x) as (λ t. is_zero x ≡ t → (if t then 0 else 1) + 0 ≡ 1) [
  | true ↦ λ e.
      let none : unsigned_abs x ≡ 0 = grind (arith, nat_tests) in
      absurd (omega (arith, some, ap category none))
  | false ↦ λ e. omega arith
] refl

-- as many places are left as values that aren't 0, or more
few_left : (x : ℤ) (remain left : ℕ) → remain ≤ suc left
    → first_of remain (suc left) ≤ category_of x → remain - nonzeros (x ∷ []) ≤ left
few_left x remain left few least =
    elim (remain == suc left) as (λ t. remain == suc left ≡ t
    → (if t then 1 else 0) ≤ category_of x → remain - nonzeros (x ∷ []) ≤ left) [
      | true ↦ λ e some. omega (arith, few, nonzero_one x some)
      | false ↦ λ e some.
          let other : remain ≢ suc left = grind (arith, nat_tests) in
          omega (arith, few, other)
    ] refl least

count_more : (x : ℤ) (ys : List ℤ) (remain : ℕ) → 0 < remain
    → nonzeros ys ≡ remain - nonzeros (x ∷ []) → nonzeros (x ∷ ys) ≡ remain
count_more x ys remain some count = let one = one_zero x in omega (arith, one, some, count)

one_event : (bins : ValueBins) (remain places : ℕ) (x : ℤ) → remain == 0 ≡ false
    → value_events bins (first_of remain places) 10 x ≡ one_events bins remain places x
one_event bins remain places x some = rw some refl

values_more : (bins : ℕ → ℕ → ValueBins) (place left remain : ℕ) (x : ℤ) (ys : List ℤ)
    (first rest : Events) → remain == 0 ≡ false → remain ≤ suc left
    → IsValue (bins place remain) (first_of remain (suc left)) 10 x first
    → AreValues bins (place + 1) left (remain - nonzeros (x ∷ [])) ys rest
    → AreValues bins place (suc left) remain (x ∷ ys) (first ++ rest)
unfolding values_events
values_more bins place left remain x ys first rest some few one more =
    let above : 0 < remain = grind (arith, nat_tests) in
    let count : nonzeros (x ∷ ys) ≡ remain = count_more x ys remain above more.count in
    let long : length (x ∷ ys) ≡ suc left = ap suc more.long in
    record {
      long = long;
      count = count;
      tens = (one.most, more.tens);
      is = ap₂ (λ (as_ bs : Events). as_ ++ bs)
          (one.is ∙ one_event (bins place remain) remain (suc left) x some) more.is
          ∙ ap₂ (λ (n l : ℕ). one_events (bins place n) n l x ++ values_events bins (place + 1) ys)
          (sym count) (sym long);
    }

all_zeros : (bins : ℕ → ℕ → ValueBins) (place left remain : ℕ) (xs : List ℤ) (events : Events)
    → remain ≡ 0 → Spells (Told (replicate left (pos 0))) events xs
    → AreValues bins place left remain xs events
all_zeros bins place left remain xs events none h =
    let told = told_last (replicate left (pos 0)) xs events h in
    record {
      long = ap length (sym told.1) ∙ zeros_length left;
      count = ap nonzeros (sym told.1) ∙ zeros_count left ∙ sym none;
      tens = subst (AllByRecursion IsTen) told.1 (zeros_tens left);
      is = told.0 ∙ zeros_events bins place left ∙ ap (values_events bins place) told.1;
    }

first_few : (remain places : ℕ) → first_of remain places ≤ 10
first_few remain places =
    elim (remain == places) as (λ t. (if t then 1 else 0) ≤ 10)
    [ true ↦ omega arith | false ↦ omega arith ]

abbrev asked_others : (ℕ → ℕ → ValueBins) → ℕ → ℕ → ℕ → ℤ → Asked (List ℤ)
asked_others bins place left remain x =
    then_ask (asked_values bins (place + 1) left (remain - nonzeros (x ∷ []))) (λ xs. Told (x ∷ xs))

abbrev asked_some : (ℕ → ℕ → ValueBins) → ℕ → ℕ → ℕ → Asked (List ℤ)
asked_some bins place left remain =
    then_ask (asked_value (bins place remain) (first_of remain (suc left)) 10)
    (λ x. asked_others bins place left remain x)

two_parts : (events a p b none : Events) → events ≡ a ++ p → p ≡ b ++ none → none ≡ []
    → a ++ b ≡ events
two_parts events a p b none e f g = rw (e, f, g, append-nil) refl

-- a value, and then the others
some_spelled : (bins : ℕ → ℕ → ValueBins) (place left remain : ℕ) (xs : List ℤ) (events : Events)
    → ((fewer : ℕ) (ys : List ℤ) (es : Events) → fewer ≤ left
    → Spells (asked_values bins (place + 1) left fewer) es ys
    → AreValues bins (place + 1) left fewer ys es)
    → remain == 0 ≡ false → remain ≤ suc left → Spells (asked_some bins place left remain) events xs
    → AreValues bins place (suc left) remain xs events
some_spelled bins place left remain xs events others some few h =
    let least : ℕ = first_of remain (suc left) in
    let parts =
    parted (asked_value (bins place remain) least 10)
    (λ (x : ℤ). asked_others bins place left remain x) events xs h in
    let x : ℤ = parts.value in
    let fewer : ℕ = remain - nonzeros (x ∷ []) in
    let rest =
    parted (asked_values bins (place + 1) left fewer) (λ (ys : List ℤ). Told (x ∷ ys)) parts.rest xs
    parts.then in
    let one =
    value_spelled (bins place remain) least 10 x parts.first (first_few remain (suc left))
    parts.spelled in
    let under = few_left x remain left few one.least in
    let more = others fewer rest.value rest.first under rest.spelled in
    let told = told_last (x ∷ rest.value) xs rest.rest rest.then in
    let whole =
    two_parts events parts.first parts.rest rest.first rest.rest parts.whole rest.whole told.0 in
    let all =
    values_more bins place left remain x rest.value parts.first rest.first some few one more in
    subst (λ (ys : List ℤ). AreValues bins place (suc left) remain ys events) told.1
    (subst (AreValues bins place (suc left) remain (x ∷ rest.value)) whole all)

pub values_spelled : (bins : ℕ → ℕ → ValueBins) (place left remain : ℕ) (xs : List ℤ)
    (events : Events) → remain ≤ left → Spells (asked_values bins place left remain) events xs
    → AreValues bins place left remain xs events
unfolding asked_values
values_spelled bins place zero remain xs events few h =
    all_zeros bins place zero remain xs events (omega (arith, few)) h
values_spelled bins place (suc left) remain xs events few h =
    let zeros : List ℤ = replicate (suc left) (pos 0) in
    elim (remain == 0) as (λ t. remain == 0 ≡ t
    → Spells (if t then Told zeros else asked_some bins place left remain) events xs
    → AreValues bins place (suc left) remain xs events) [
      | true ↦ λ e k. all_zeros bins place (suc left) remain xs events (grind (arith, nat_tests)) k
      | false ↦ λ e k. some_spelled bins place left remain xs events
          (λ fewer ys es under s. values_spelled bins (place + 1) left fewer ys es under s) e few k
    ] refl h

-- an edge: how many of its coefficients aren't 0, and these
pub record IsEdge (class : ℕ) (column : Bool) (around : Around) (inner : ℕ) (xs : List ℤ)
    (events : Events) : Type 0 where
  pub long : length xs ≡ 7
  pub tens : AllByRecursion IsTen xs
  pub is : events ≡ edge_events class column around inner xs

pub edge_spelled : (class : ℕ) (column : Bool) (around : Around) (inner : ℕ) (xs : List ℤ)
    (events : Events) → Spells (asked_edge class column around inner) events xs
    → IsEdge class column around inner xs events
unfolding asked_edge edge_events
edge_spelled class column around inner xs events h =
    let bin : ℕ → ℕ = λ node. bin_number class (EdgeCount column (category inner) node) in
    let bins : ℕ → ℕ → ValueBins = edge_bins class column around in
    let parts = parted (asked_count bin 3) (λ (n : ℕ). asked_values bins 0 7 n) events xs h in
    let count = count_spelled bin 3 parts.value parts.first parts.spelled in
    let seven : parts.value ≤ 7 = omega (arith, count.1) in
    let values = values_spelled bins 0 7 parts.value xs parts.rest seven parts.then in
    record {
      long = values.long;
      tens = values.tens;
      is = parts.whole
          ∙ ap₂ (λ (as_ bs : Events). as_ ++ bs)
          (count.0 ∙ ap (count_events bin 3) (sym values.count)) values.is;
    }
