-- The components of a scan by their index in the frame.
use Rattle.std.proofs.Common.{◌≡◌, ◌≢◌, ℕ, zero, suc, ◌+◌, ◌<◌, ◌≤◌, Bool, true, false, List, [], ◌∷◌, length, map, drop, set, get_or, fold, replicate, cond, Option, Some, None, refl, sym, ap, ◌∙◌, subst, arith, ◌==◌}
use Rattle.std.specs.List.{AllByRecursion}
use Rattle.std.proofs.lemmas.Bool.{eqb-true, eq-eqb, ne_eqb, false≢true}
use Rattle.std.proofs.lemmas.List.{get_or-set_same, get_or-set_other, length-set, drop_all}
use Rattle.jpeg_marker.specs.Plans.{are_indexes}
use Rattle.jpeg_marker.specs.declared.component.Component.{Component}
use Rattle.jpeg_marker.proofs.Choices.{Rising, rising_is}
use Rattle.huff_table.specs.ComponentTables.{tables_of, component_at, no_codes, codes_with, codes_of}

abbrev pub index_of : Component → ℕ
index_of c = c.index

-- no component has an index below theirs
pub none_below : (index from : ℕ) (components : List Component) → index < from → Rising from 4 (map index_of components) → component_at components index ≡ None
none_below index from [] below rising = refl
none_below index from (c ∷ components) below rising =
    let other : (c.index == index) ≡ false = ne_eqb c.index index (omega (arith, rising.0)) in
    rw other (none_below index (c.index + 1) components (omega (arith, rising.0)) rising.2)

-- a component is first among those from it on, and isn't another
pub first_at : (c : Component) (components : List Component) → component_at (c ∷ components) c.index ≡ Some c
first_at c components = ap (λ (b : Bool). cond b (Some c) (component_at components c.index)) (eq-eqb c.index c.index refl)

pub later_at : (c : Component) (components : List Component) (index : ℕ) → c.index < index → component_at (c ∷ components) index ≡ component_at components index
later_at c components index later = ap (λ (b : Bool). cond b (Some c) (component_at components index)) (ne_eqb c.index index (omega (arith, later)))

-- a component that is found by its index, which is one of the frame's
pub record IsFound (all : List Component) (from : ℕ) (c : Component) : Type 0 where
  pub after : from ≤ c.index
  pub below : c.index < 4
  pub found : component_at all c.index ≡ Some c

found_later : (first : Component) (all : List Component) (from : ℕ) (components : List Component) → from ≤ first.index → AllByRecursion (IsFound all (first.index + 1)) components
    → AllByRecursion (IsFound (first ∷ all) from) components
found_later first all from [] after each = tt
found_later first all from (c ∷ components) after each =
    let one = each.0 in (
      record {
        after = omega (arith, after, one.after);
        below = one.below;
        found = later_at first all c.index (omega (arith, one.after)) ∙ one.found;
      },
      found_later first all from components after each.1,
    )

-- each component is found by its index
pub found_each : (from : ℕ) (components : List Component) → Rising from 4 (map index_of components) → AllByRecursion (IsFound components from) components
found_each from [] rising = tt
found_each from (c ∷ components) rising = (
  record { after = rising.0; below = rising.1; found = first_at c components },
  found_later c components from components rising.0 (found_each (c.index + 1) components rising.2),
)

-- the code words of an index
pub codes_at : (components : List Component) (index : ℕ) → index < 4 → get_or (codes_of components) index no_codes ≡ codes_with (component_at components index)
codes_at components zero below = refl
codes_at components (suc zero) below = refl
codes_at components (suc (suc zero)) below = refl
codes_at components (suc (suc (suc zero))) below = refl
codes_at components (suc (suc (suc (suc index)))) below = absurd (omega (arith, below))

-- those of a component are found by its index
pub codes_found : (components : List Component) (from : ℕ) (c : Component) → IsFound components from c → get_or (codes_of components) c.index no_codes ≡ tables_of c
codes_found components from c is = codes_at components c.index is.below ∙ ap codes_with is.found

-- their indexes are below four
index_below : (from : ℕ) (components : List Component) (i : ℕ) (d : Component) → Rising from 4 (map index_of components) → i < length components → (get_or components i d).index < 4
index_below from [] i d rising within = absurd (omega (arith, within))
index_below from (c ∷ components) zero d rising within = rising.1
index_below from (c ∷ components) (suc i) d rising within = index_below (c.index + 1) components i d rising.2 (omega (arith, within))

-- the same of a plan's components, as its call gives them
pub low_index : (given components : List Component) (i : ℕ) (d : Component) → given ≡ components → are_indexes 0 4 (map index_of components) ≡ true → i < length given → (get_or given i d).index < 4
low_index given components i d same rising within =
    index_below 0 given i d (subst (λ (cs : List Component). Rising 0 4 (map index_of cs)) (sym same) (rising_is 0 4 (map index_of components) rising)) within

-- values of components, set by their index
abbrev pub put_all : {B : Type 0} → (Component → B) → List B → List Component → List B
put_all f all components = fold (λ all (c : Component). set all c.index (f c)) all components

-- the value of a component if there is one, and another if not
abbrev pub value_or : {B : Type 0} → (Component → B) → B → Option Component → B
value_or f other None = other
value_or f other (Some c) = f c

-- an entry after all were set
put_at : {B : Type 0} (f : Component → B) (d : B) (index from : ℕ) (all : List B) (components : List Component) → length all ≡ 4 → Rising from 4 (map index_of components)
    → get_or (put_all f all components) index d ≡ value_or f (get_or all index d) (component_at components index)
put_at f d index from all [] long rising = refl
put_at f d index from all (c ∷ components) long rising =
    go (c.index == index) refl (put_at f d index (c.index + 1) (set all c.index (f c)) components (length-set all c.index (f c) ∙ long) rising.2)
  where
    go : (b : Bool) → (c.index == index) ≡ b
        → get_or (put_all f (set all c.index (f c)) components) index d ≡ value_or f (get_or (set all c.index (f c)) index d) (component_at components index)
        → get_or (put_all f (set all c.index (f c)) components) index d ≡ value_or f (get_or all index d) (component_at (c ∷ components) index)
    go true e rest =
        let same : c.index ≡ index = eqb-true c.index index e in
        let none = none_below index (c.index + 1) components (omega (arith, same)) rising.2 in
        rest ∙ rw (none, e) (ap (λ n. get_or (set all c.index (f c)) n d) (sym same) ∙ get_or-set_same all c.index (f c) d (omega (arith, long, rising.1)))
    go false e rest =
        let other : index ≢ c.index = λ same. false≢true (sym e ∙ eq-eqb c.index index (sym same)) in
        rest ∙ rw e (ap (λ v. value_or f v (component_at components index)) (get_or-set_other all c.index index (f c) d other))

length_put : {B : Type 0} (f : Component → B) (all : List B) (components : List Component) → length (put_all f all components) ≡ length all
length_put f all [] = refl
length_put f all (c ∷ components) = length_put f (set all c.index (f c)) components ∙ length-set all c.index (f c)

four_are : {B : Type 0} (d : B) (all : List B) → length all ≡ 4 → all ≡ map (λ index. get_or all index d) (0 ∷ 1 ∷ 2 ∷ 3 ∷ [])
four_are d [] long = absurd (omega (arith, long))
four_are d (a ∷ []) long = absurd (omega (arith, long))
four_are d (a ∷ b ∷ []) long = absurd (omega (arith, long))
four_are d (a ∷ b ∷ c ∷ []) long = absurd (omega (arith, long))
four_are d (a ∷ b ∷ c ∷ e ∷ []) long = refl
four_are d (a ∷ b ∷ c ∷ e ∷ f ∷ all) long = absurd (omega (arith, long))

-- all of them are by index
put_are : {B : Type 0} (f : Component → B) (d : B) (components : List Component) → Rising 0 4 (map index_of components)
    → put_all f (replicate 4 d) components ≡ map (λ index. value_or f d (component_at components index)) (0 ∷ 1 ∷ 2 ∷ 3 ∷ [])
put_are f d components rising =
    let at : (index : ℕ) → get_or (replicate 4 d) index d ≡ d → get_or (put_all f (replicate 4 d) components) index d ≡ value_or f d (component_at components index) =
    λ index none. put_at f d index 0 (replicate 4 d) components refl rising ∙ ap (λ v. value_or f v (component_at components index)) none in
    four_are d (put_all f (replicate 4 d) components) (length_put f (replicate 4 d) components)
    ∙ rw (at 0 refl, at 1 refl, at 2 refl, at 3 refl) refl

-- a loop over a plan's components has put them all
pub all_put : {B : Type 0} (f : Component → B) (d : B) (all : List B) (given components : List Component) (i : ℕ) → given ≡ components → are_indexes 0 4 (map index_of components) ≡ true
    → length given ≤ i → put_all f all (drop i given) ≡ put_all f (replicate 4 d) given
    → all ≡ map (λ index. value_or f d (component_at components index)) (0 ∷ 1 ∷ 2 ∷ 3 ∷ [])
all_put f d all given components i same rising past rest =
    ap (put_all f all) (sym (drop_all i given past)) ∙ rest ∙ ap (put_all f (replicate 4 d)) same
    ∙ put_are f d components (rising_is 0 4 (map index_of components) rising)
