-- MCUs put in parts.
use Rattle.std.proofs.Common.{◌≡◌, ℕ, Bool, List, [], ◌∷◌, ◌++◌, Ok, Err, refl, sym, ap, ◌∙◌, append_assoc}
use Rattle.scan_spec.specs.Slots.{Shape}
use Rattle.scan_spec.specs.Scans.{Mcu}
use Rattle.scan_spec.specs.Spots.{Spot, Put, prefixed_put, then_put, mcu_put, mcus_put}

nothing_put : (p : Put) → p ≡ prefixed_put [] p
nothing_put (Ok x) = refl
nothing_put (Err e) = refl

after_twice : (a b : List ℕ) (p : Put) → prefixed_put a (prefixed_put b p) ≡ prefixed_put (a ++ b) p
after_twice a b (Ok x) = ap (λ (l : List ℕ). Ok (l, x.1)) (sym (append_assoc a b x.0))
after_twice a b (Err e) = refl

then_after : (a : List ℕ) (p : Put) (f : Spot → Put) → prefixed_put a (then_put p f) ≡ then_put (prefixed_put a p) f
then_after a (Ok x) f = after_twice a x.0 (f x.1)
then_after a (Err e) f = refl

then_twice : (p : Put) (f g : Spot → Put) → then_put p (λ s. then_put (f s) g) ≡ then_put (then_put p f) g
then_twice (Ok x) f g = then_after x.0 (f x.1) g
then_twice (Err e) f g = refl

same_then : (p : Put) (f g : Spot → Put) → ((s : Spot) → f s ≡ g s) → then_put p f ≡ then_put p g
same_then (Ok x) f g h = ap (prefixed_put x.0) (h x.1)
same_then (Err e) f g h = refl

pub put_in_parts : (shape : Shape) (pads : ℕ → Bool) (mcus more : List Mcu) (spot : Spot)
    → mcus_put shape pads spot (mcus ++ more) ≡ then_put (mcus_put shape pads spot mcus) (λ next. mcus_put shape pads next more)
unfolding mcus_put
put_in_parts shape pads [] more spot = nothing_put (mcus_put shape pads spot more)
put_in_parts shape pads (mcu ∷ mcus) more spot =
    same_then (mcu_put shape pads spot mcu) (λ next. mcus_put shape pads next (mcus ++ more)) (λ next. then_put (mcus_put shape pads next mcus) (λ last. mcus_put shape pads last more))
    (λ next. put_in_parts shape pads mcus more next)
    ∙ then_twice (mcu_put shape pads spot mcu) (λ next. mcus_put shape pads next mcus) (λ last. mcus_put shape pads last more)
