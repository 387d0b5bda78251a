-- A scan codes each component of its frame.
use Rattle.std.proofs.Common.{◌≡◌, ◌≢◌, ◌≤◌, ◌<◌, ℕ, zero, suc, ◌*◌, List, [], ◌∷◌, length, map, fold, set, get_or, replicate, refl, sym, ap, ap₂, ◌∙◌, arith, true, false, Bool, cond, ◌==◌, ◌&&◌, ◌||◌, ℤ, pos, unsigned_abs}
use Rattle.std.specs.Prelude.{nat_le, flat_map}
use Rattle.std.specs.List.{list_any, list_all}
use Rattle.std.proofs.lemmas.Bool.{and_parts, leb-true, eqb-true, eq-eqb, false≢true}
use Rattle.std.proofs.lemmas.List.{get_or-set_same, get_or-set_other, length-set}
use Rattle.std.proofs.lemmas.List.Folds.{list_any-append}
use Rattle.std.proofs.Math.Nat.{mul-le-mul}
use Rattle.jpeg_marker.specs.declared.component.Component.{Component}
use Rattle.jpeg_marker.specs.Frames.{area, is_sampled, are_components}
use Rattle.jpeg_marker.specs.Plans.{PlanFields, IsPlan, part_of}
use Rattle.scan_spec.specs.declared.slot.Slot.{Slot}
use Rattle.scan_spec.specs.Slots.{slot_of, slots_of, shape_of}
use Rattle.handover.specs.Handovers.{HandoverFields}
use Rattle.handover.proofs.FieldBytes.{four_of}
use Rattle.box_format.specs.Whole.{are_unused_zeros}

-- a component has a block
has_area : (h v : ℕ) → 1 ≤ h → 1 ≤ v → 1 ≤ h * v
has_area h v a b = omega (arith, mul-le-mul a b)

sampled_area : (c : Component) → is_sampled (part_of c) ≡ true → 1 ≤ area (part_of c)
sampled_area c e =
    let one = and_parts (nat_le 1 c.h && nat_le c.h 4 && nat_le 1 c.v) (nat_le c.v 4) e in
    let two = and_parts (nat_le 1 c.h && nat_le c.h 4) (nat_le 1 c.v) one.0 in
    let three = and_parts (nat_le 1 c.h) (nat_le c.h 4) two.0 in
    has_area c.h c.v (leb-true 1 c.h three.0) (leb-true 1 c.v two.1)

-- whether a block is a component's
abbrev is_of : ℕ → Slot → Bool
is_of c slot = slot.component == c

last : (b : Bool) → (b || false) ≡ b
last true = refl
last false = refl

twice : (b : Bool) → (b || b) ≡ b
twice true = refl
twice false = refl

-- blocks of one component
of_blocks : (n c : ℕ) (slot : Slot) → 1 ≤ n
    → list_any (is_of c) (replicate n slot) ≡ (slot.component == c)
of_blocks zero c slot some = absurd (omega arith)
of_blocks (suc zero) c slot some = last (slot.component == c)
of_blocks (suc (suc n)) c slot some =
    ap (λ (b : Bool). (slot.component == c) || b) (of_blocks (suc n) c slot (omega arith))
    ∙ twice (slot.component == c)

-- whether a scan has the component of an index
abbrev pub has_index : ℕ → List Component → Bool
has_index k cs = list_any (λ c. c.index == k) cs

-- components whose sampling factors count have blocks, and no other
coded_each : (k : ℕ) (cs : List Component) → list_all is_sampled (map part_of cs) ≡ true
    → list_any (is_of k) (flat_map (λ part. replicate (area (part_of part)) (slot_of part)) cs)
    ≡ has_index k cs
coded_each k [] e = refl
coded_each k (c ∷ cs) e =
    let parts = and_parts (is_sampled (part_of c)) (list_all is_sampled (map part_of cs)) e in
    list_any-append (is_of k) (replicate (area (part_of c)) (slot_of c))
    (flat_map (λ part. replicate (area (part_of part)) (slot_of part)) cs)
    ∙ ap₂ (λ (a b : Bool). a || b) (of_blocks (area (part_of c)) k (slot_of c) (sampled_area c parts.0))
    (coded_each k cs parts.1)

-- each component of a plan has blocks, and no other
coded_in : (cs : List Component) (k : ℕ) → list_all is_sampled (map part_of cs) ≡ true
    → list_any (is_of k) (slots_of cs) ≡ has_index k cs
coded_in [] k e = refl
coded_in (c ∷ []) k e = refl
coded_in (c ∷ d ∷ cs) k e = coded_each k (c ∷ d ∷ cs) e

middle : (x y z : Bool) → (x && y && z) ≡ true → y ≡ true
middle x true z e = refl
middle true false z e = cc
middle false false z e = cc

sampled_in : (cs : List Component) → are_components (map part_of cs) ≡ true
    → list_all is_sampled (map part_of cs) ≡ true
sampled_in cs e = middle _ (list_all is_sampled (map part_of cs)) _ e

pub coded_is : (plan : PlanFields) (k : ℕ) → IsPlan plan
    → list_any (is_of k) (shape_of plan).slots ≡ has_index k plan.components
coded_is plan k is = coded_in plan.components k (sampled_in plan.components is.components)

-- DCs, with zeros for these components
abbrev pub zeroed : List ℤ → List Component → List ℤ
zeroed dcs cs = fold (λ dcs (c : Component). set dcs c.index (pos 0)) dcs cs

pub length-zeroed : (dcs : List ℤ) (cs : List Component) → length (zeroed dcs cs) ≡ length dcs
length-zeroed dcs [] = refl
length-zeroed dcs (c ∷ cs) =
    length-zeroed (set dcs c.index (pos 0)) cs ∙ length-set dcs c.index (pos 0)

-- one of them
abbrev zero_or : Bool → ℤ → ℤ
zero_or b dc = cond b (pos 0) dc

twice_zero : (b : Bool) → zero_or b (pos 0) ≡ pos 0
twice_zero true = refl
twice_zero false = refl

zeroed_at : (k : ℕ) (dcs : List ℤ) (cs : List Component) → k < length dcs
    → get_or (zeroed dcs cs) k (pos 0) ≡ zero_or (has_index k cs) (get_or dcs k (pos 0))
zeroed_at k dcs [] within = refl
zeroed_at k dcs (c ∷ cs) within =
    let long : length (set dcs c.index (pos 0)) ≡ length dcs = length-set dcs c.index (pos 0) in
    go (c.index == k) refl
    (zeroed_at k (set dcs c.index (pos 0)) cs (omega (arith, long, within)))
  where
    go : (b : Bool) → (c.index == k) ≡ b
        → get_or (zeroed (set dcs c.index (pos 0)) cs) k (pos 0)
        ≡ zero_or (has_index k cs) (get_or (set dcs c.index (pos 0)) k (pos 0))
        → get_or (zeroed (set dcs c.index (pos 0)) cs) k (pos 0)
        ≡ zero_or (has_index k (c ∷ cs)) (get_or dcs k (pos 0))
    go true e rest =
        let same : c.index ≡ k = eqb-true c.index k e in
        let here : get_or (set dcs c.index (pos 0)) k (pos 0) ≡ pos 0 =
        ap (λ (n : ℕ). get_or (set dcs c.index (pos 0)) n (pos 0)) (sym same)
        ∙ get_or-set_same dcs c.index (pos 0) (pos 0) (omega (arith, same, within)) in
        rest ∙ ap (zero_or (has_index k cs)) here ∙ twice_zero (has_index k cs)
        ∙ ap (λ (b : Bool). zero_or (b || has_index k cs) (get_or dcs k (pos 0))) (sym e)
    go false e rest =
        let other : k ≢ c.index = λ same. false≢true (sym e ∙ eq-eqb c.index k (sym same)) in
        rest
        ∙ ap (zero_or (has_index k cs)) (get_or-set_other dcs c.index k (pos 0) (pos 0) other)
        ∙ ap (λ (b : Bool). zero_or (b || has_index k cs) (get_or dcs k (pos 0))) (sym e)

-- whether a DC is 0
abbrev pub is_zero : ℤ → Bool
is_zero dc = unsigned_abs dc == 0

is_zero_or : (b : Bool) (dc : ℤ) → is_zero (zero_or b dc) ≡ (b || is_zero dc)
is_zero_or true dc = refl
is_zero_or false dc = refl

unused_at : (plan : PlanFields) (dcs : List ℤ) (k : ℕ) → IsPlan plan → k < length dcs
    → is_zero (get_or (zeroed dcs plan.components) k (pos 0))
    ≡ (list_any (is_of k) (shape_of plan).slots
    || is_zero (get_or dcs k (pos 0)))
unused_at plan dcs k is within =
    ap is_zero (zeroed_at k dcs plan.components within)
    ∙ is_zero_or (has_index k plan.components) (get_or dcs k (pos 0))
    ∙ ap (λ (b : Bool). b || is_zero (get_or dcs k (pos 0))) (sym (coded_is plan k is))

four_all : (dcs : List ℤ) (f : ℤ → Bool) → length dcs ≡ 4
    → list_all f dcs ≡ list_all (λ k. f (get_or dcs k (pos 0))) (0 ∷ 1 ∷ 2 ∷ 3 ∷ [])
four_all dcs f long = let four = four_of dcs long in rw four.are refl

-- the test of the unused ones
pub unused_is : (plan : PlanFields) (h : HandoverFields) → IsPlan plan → length h.preds ≡ 4
    → list_all is_zero (zeroed h.preds plan.components) ≡ are_unused_zeros (shape_of plan) h
unused_is plan h is long =
    four_all (zeroed h.preds plan.components) is_zero (length-zeroed h.preds plan.components ∙ long)
    ∙ rw (
      unused_at plan h.preds 0 is (omega (arith, long)),
      unused_at plan h.preds 1 is (omega (arith, long)),
      unused_at plan h.preds 2 is (omega (arith, long)),
      unused_at plan h.preds 3 is (omega (arith, long)),
    ) refl
