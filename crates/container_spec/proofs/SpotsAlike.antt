-- Where a scan's MCUs leave off doesn't depend on its pad bits.
use Rattle.std.proofs.Common.{◌≡◌, ℕ, ◌+◌, Bool, true, false, if◌then◌else◌, List, [], ◌∷◌, take, ℤ, Ok, Err, refl, ap, subst}
use Rattle.scan_spec.specs.BlockBits.{Text}
use Rattle.scan_spec.specs.Blocks.{blocks_text, dcs_after}
use Rattle.scan_spec.specs.Scans.{Mcu}
use Rattle.scan_spec.specs.Slots.{Shape}
use Rattle.scan_spec.specs.Spots.{Spot, Put, first_spot, is_closed, put_text, mcu_put, prefixed_put, then_put, mcus_put, spot_in}
use Rattle.cut_spec.specs.RowHandovers.{handover_of, handover_at}

-- both leave off at a spot, or neither does
abbrev Alike : Put → Put → Type 0
Alike (Ok x) (Ok y) = x.1 ≡ y.1
Alike (Ok x) (Err stop) = ⊥
Alike (Err stop) (Ok y) = ⊥
Alike (Err stop) (Err other) = Unit {0}

alike_spot : (p q : Put) → Alike p q → spot_in p ≡ spot_in q
alike_spot (Ok x) (Ok y) e = e
alike_spot (Ok x) (Err stop) e = absurd e
alike_spot (Err stop) (Ok y) e = absurd e
alike_spot (Err stop) (Err other) e = refl

closed_alike : (t : Bool) (x y z : List ℕ × Spot) → x.1 ≡ y.1
    → (if t then x else z).1 ≡ (if t then y else z).1
closed_alike true x y z e = e
closed_alike false x y z e = refl

text_alike : (t : Text) (shape : Shape) (f g : ℕ → Bool) (spot : Spot) (before : List ℤ)
    → Alike (put_text shape f spot before t) (put_text shape g spot before t)
text_alike (Ok bits) shape f g spot before =
    closed_alike (is_closed shape (spot.count + 1)) _ _ _ refl
text_alike (Err stop) shape f g spot before = tt

mcu_alike : (shape : Shape) (f g : ℕ → Bool) (spot : Spot) (mcu : Mcu)
    → Alike (mcu_put shape f spot mcu) (mcu_put shape g spot mcu)
unfolding mcu_put
mcu_alike shape f g spot mcu =
    text_alike (blocks_text shape.slots spot.before mcu) shape f g spot
    (dcs_after shape.slots spot.before mcu)

prefixed_alike : (a b : List ℕ) (p q : Put) → Alike p q
    → Alike (prefixed_put a p) (prefixed_put b q)
prefixed_alike a b (Ok x) (Ok y) e = e
prefixed_alike a b (Ok x) (Err stop) e = absurd e
prefixed_alike a b (Err stop) (Ok y) e = absurd e
prefixed_alike a b (Err stop) (Err other) e = tt

then_alike : (p q : Put) (f g : Spot → Put) → Alike p q → ((s : Spot) → Alike (f s) (g s))
    → Alike (then_put p f) (then_put q g)
then_alike (Ok x) (Ok y) f g e each =
    prefixed_alike x.0 y.0 (f x.1) (g y.1)
    (subst (λ (s : Spot). Alike (f x.1) (g s)) e (each x.1))
then_alike (Ok x) (Err stop) f g e each = absurd e
then_alike (Err stop) (Ok y) f g e each = absurd e
then_alike (Err stop) (Err other) f g e each = tt

mcus_alike : (mcus : List Mcu) (shape : Shape) (f g : ℕ → Bool) (spot : Spot)
    → Alike (mcus_put shape f spot mcus) (mcus_put shape g spot mcus)
unfolding mcus_put
mcus_alike [] shape f g spot = refl
mcus_alike (mcu ∷ mcus) shape f g spot =
    then_alike (mcu_put shape f spot mcu) (mcu_put shape g spot mcu)
    (λ next. mcus_put shape f next mcus) (λ next. mcus_put shape g next mcus)
    (mcu_alike shape f g spot mcu) (λ s. mcus_alike mcus shape f g s)

-- nor does what is handed over
pub handovers_alike : (shape : Shape) (f g : ℕ → Bool) (mcus : List Mcu) (n : ℕ)
    → handover_at shape f mcus n ≡ handover_at shape g mcus n
handovers_alike shape f g mcus n =
    ap (handover_of shape)
    (alike_spot (mcus_put shape f first_spot (take n mcus)) (mcus_put shape g first_spot (take n mcus))
    (mcus_alike (take n mcus) shape f g first_spot))
