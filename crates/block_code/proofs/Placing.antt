-- Values put at the positions of a band.
use Rattle.std.proofs.Common.{◌≡◌, ◌≢◌, ℕ, zero, suc, ◌<◌, Bool, true, false, true≢false, List, [], ◌∷◌, refl, ap, ap₂, ◌∙◌, sym, arith, length, get_or, set, replicate}
use Rattle.std.specs.Prelude.{◌==◌, ◌&&◌, ◌||◌, not, nat_lt, ℤ, pos}
use Rattle.std.proofs.lemmas.Bool.{and_parts, eq-eqb, ltb-true, not-true}
use Rattle.std.proofs.lemmas.List.{get_or-set_same, get_or-set_other, get_or-map, length-map}
use Rattle.block_spec.specs.Around.{value_at, values_in, inner_positions, row_positions, column_positions}
use Rattle.block_spec.specs.BlockEvents.{edge_positions}
use Rattle.block_spec.specs.Values.{nonzeros}
use Rattle.block_code.specs.BandPositions.{AreSameElsewhere, IsBand, are_once, is_among}

-- none of some positions is among others
unfoldable pub are_others : List ℕ → List ℕ → Bool
are_others [] ps = true
are_others (q ∷ qs) ps = not (is_among q ps) && are_others qs ps

pub first_other : (x q : ℕ) (ps : List ℕ) → ((x == q) || is_among q ps) ≡ false → (x ≢ q) × (is_among q ps ≡ false)
first_other x q ps h = (λ e. true≢false (sym (ap (λ (b : Bool). b || is_among q ps) (eq-eqb x q e)) ∙ h), rest (x == q) (is_among q ps) h)
  where
    rest : (a b : Bool) → (a || b) ≡ false → b ≡ false
    rest true b e = absurd (true≢false e)
    rest false b e = e

once_parts : (p : ℕ) (ps : List ℕ) → are_once (p ∷ ps) ≡ true → (is_among p ps ≡ false) × (nat_lt p 64 ≡ true) × (are_once ps ≡ true)
unfolding are_once
once_parts p ps h =
    let outer = and_parts (not (is_among p ps)) (nat_lt p 64 && are_once ps) h in
    let inner = and_parts (nat_lt p 64) (are_once ps) outer.1 in
    (not-true (is_among p ps) outer.0, inner.0, inner.1)

-- positions elsewhere keep their values
pub values_kept : (qs ps : List ℕ) (a b : List ℤ) → are_others qs ps ≡ true → AreSameElsewhere ps a b → values_in qs b ≡ values_in qs a
unfolding are_others values_in
values_kept [] ps a b apart kept = refl
values_kept (q ∷ qs) ps a b apart kept =
    let parts = and_parts _ _ apart in
    ap₂ (λ (y : ℤ) (ys : List ℤ). y ∷ ys) (kept q (not-true _ parts.0)) (values_kept qs ps a b parts.1 kept)

among_at : (p : ℕ) (ps : List ℕ) (place : ℕ) → place < length ps → is_among p ps ≡ false → get_or ps place 0 ≢ p
unfolding is_among
among_at p [] place within h = absurd (omega (arith, within))
among_at p (x ∷ xs) zero within h = (first_other x p xs h).0
among_at p (x ∷ xs) (suc place) within h = among_at p xs place (omega (arith, within)) (first_other x p xs h).1

-- a value put at one of the positions leaves those elsewhere
pub elsewhere_more : (ps : List ℕ) (a b : List ℤ) (place : ℕ) (x : ℤ) → place < length ps → AreSameElsewhere ps a b → AreSameElsewhere ps a (set b (get_or ps place 0) x)
elsewhere_more ps a b place x within kept q h =
    get_or-set_other b (get_or ps place 0) q x (pos 0) (λ e. among_at q ps place within h (sym e)) ∙ kept q h

-- no position of a list without this one
not_first : (p : ℕ) (qs ps : List ℕ) (b : List ℤ) (x : ℤ) → is_among p qs ≡ false → values_in qs (set b p x) ≡ values_in qs b
unfolding is_among values_in
not_first p [] ps b x h = refl
not_first p (q ∷ qs) ps b x h =
    let other = first_other q p qs h in
    ap₂ (λ (y : ℤ) (ys : List ℤ). y ∷ ys) (get_or-set_other b p q x (pos 0) other.0) (not_first p qs ps b x other.1)

-- and is the value at its place
pub values_set : (ps : List ℕ) (b : List ℤ) (place : ℕ) (x : ℤ) → are_once ps ≡ true → place < length ps → length b ≡ 64 → values_in ps (set b (get_or ps place 0) x) ≡ set (values_in ps b) place x
unfolding values_in
values_set [] b place x once within wide = absurd (omega (arith, within))
values_set (p ∷ ps) b zero x once within wide =
    let parts = once_parts p ps once in
    let below : p < 64 = ltb-true p 64 parts.1 in
    ap₂ (λ (y : ℤ) (ys : List ℤ). y ∷ ys) (get_or-set_same b p x (pos 0) (omega (arith, below, wide))) (not_first p ps ps b x parts.0)
values_set (p ∷ ps) b (suc place) x once within wide =
    let parts = once_parts p ps once in
    let less : place < length ps = omega (arith, within) in
    ap₂ (λ (y : ℤ) (ys : List ℤ). y ∷ ys) (get_or-set_other b (get_or ps place 0) p x (pos 0) (λ e. among_at p ps place less parts.0 (sym e)))
    (values_set ps b place x parts.2 less wide)

pub long_in : (ps : List ℕ) (b : List ℤ) → length (values_in ps b) ≡ length ps
unfolding values_in
long_in ps b = simp length-map refl

-- the value at a place is that at its position
pub value_there : (ps : List ℕ) (b : List ℤ) (place : ℕ) → place < length ps → get_or (values_in ps b) place (pos 0) ≡ value_at b (get_or ps place 0)
unfolding values_in
value_there ps b place within = get_or-map (value_at b) ps place 0 (pos 0) within

-- the positions of the bands
pub inner_band : IsBand inner_positions 49
unfolding are_once is_among inner_positions
inner_band = record { long = refl; once = refl }

pub edge_band : (column : Bool) → IsBand (edge_positions column) 7
unfolding are_once is_among
edge_band true = record { long = refl; once = refl }
edge_band false = record { long = refl; once = refl }

pub bands_apart : (are_others inner_positions row_positions ≡ true) × (are_others inner_positions column_positions ≡ true) × (are_others row_positions inner_positions ≡ true) × (are_others row_positions column_positions ≡ true) × (are_others column_positions inner_positions ≡ true) × (are_others column_positions row_positions ≡ true)
unfolding are_others is_among inner_positions
bands_apart = (refl, refl, refl, refl, refl, refl)

pub dc_apart : (are_others inner_positions (0 ∷ []) ≡ true) × (are_others row_positions (0 ∷ []) ≡ true) × (are_others column_positions (0 ∷ []) ≡ true)
unfolding are_others is_among inner_positions
dc_apart = (refl, refl, refl)

-- none of 64 zeros isn't 0
pub zeros_none : (nonzeros (values_in inner_positions (replicate 64 (pos 0))) ≡ 0) × (nonzeros (values_in row_positions (replicate 64 (pos 0))) ≡ 0) × (nonzeros (values_in column_positions (replicate 64 (pos 0))) ≡ 0)
unfolding values_in inner_positions
zeros_none = (refl, refl, refl)

-- what is read at the position of a place
pub read_there : (ps : List ℕ) (b : List ℤ) (place position : ℕ) (x : ℤ) → place < length ps → position ≡ get_or ps place 0 → x ≡ value_at b position → x ≡ get_or (values_in ps b) place (pos 0)
read_there ps b place position x within at read = read ∙ ap (value_at b) at ∙ sym (value_there ps b place within)
