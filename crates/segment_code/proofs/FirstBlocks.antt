-- What bytes give of events they give of the first ones.
use Rattle.std.proofs.Common.{◌≡◌, ℕ, Bool, false, List, [], ◌∷◌, ◌++◌, drop, get_or, map, refl, sym, ap, ap₂, ◌∙◌, subst, append_assoc, append-nil}
use Rattle.std.specs.Prelude.{Err}
use Rattle.bool_coder.specs.BoolStream.{Interval, opening, after}
use Rattle.bool_coder.specs.BoolReading.{next_bit, reading, IsReading}
use Rattle.adapt_bins.specs.Events.{probability, bools_after, bools_of}
use Rattle.block_spec.specs.Around.{Around}
use Rattle.block_spec.specs.ReadBlocks.{IsRead}
use Rattle.block_spec.specs.declared.fault.BlockFault.{BlockFault}
use Rattle.block_spec.specs.declared.fault.BlockFault.TheVariants.{BlockCount, DcRange}

bools_first : (earlier es fs : List (ℕ × Bool)) → bools_after earlier (es ++ fs) ≡ bools_after earlier es ++ bools_after (earlier ++ es) fs
bools_first earlier [] fs = ap (λ (all : List (ℕ × Bool)). bools_after all fs) (sym (append-nil earlier))
bools_first earlier (e ∷ es) fs =
    ap (λ (bs : List (ℕ × Bool)). (probability earlier e.0, e.1) ∷ bs)
    (bools_first (earlier ++ e ∷ []) es fs ∙ ap (λ (all : List (ℕ × Bool)). bools_after (earlier ++ e ∷ []) es ++ bools_after all fs) (append_assoc earlier (e ∷ []) es))

abbrev Given : List ℕ → Interval → List (ℕ × Bool) → Type 0
Given bytes i bools = reading bytes i (map (λ (b : ℕ × Bool). b.0) bools) ≡ map (λ (b : ℕ × Bool). b.1) bools

bools_given : (bytes : List ℕ) (i : Interval) (xs ys : List (ℕ × Bool)) → Given bytes i (xs ++ ys) → Given bytes i xs
bools_given bytes i [] ys h = refl
bools_given bytes i (x ∷ xs) ys h =
    let bit : next_bit bytes i x.0 ≡ x.1 = ap (λ (l : List Bool). get_or l 0 false) h in
    ap₂ (λ (b : Bool) (bs : List Bool). b ∷ bs) bit (bools_given bytes (after i (x.0, next_bit bytes i x.0)) xs ys (ap (drop 1) h))

pub events_given : (bytes : List ℕ) (es fs : List (ℕ × Bool)) → IsReading bytes (bools_of (es ++ fs)) → IsReading bytes (bools_of es)
events_given bytes es fs h = bools_given bytes opening (bools_of es) (bools_after ([] ++ es) fs) (subst (IsReading bytes) (bools_first [] es fs) h)

pub before_fault : (bytes : List ℕ) (earlier : List (ℕ × Bool)) (class : ℕ) (around : Around) (f : BlockFault)
    → IsRead (λ es. IsReading bytes (bools_of (earlier ++ es))) class around (Err f) → IsReading bytes (bools_of earlier)
before_fault bytes earlier class around BlockCount r = events_given bytes earlier _ r.coded
before_fault bytes earlier class around DcRange r = events_given bytes earlier _ r.coded
