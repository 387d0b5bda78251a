-- What bytes give of blocks they give of the first of them.
use Rattle.std.proofs.Common.{◌≡◌, ℕ, Bool, false, List, [], ◌∷◌, ◌++◌, get_or, drop, map, refl, sym, ap, ap₂, ◌∙◌, subst, append_assoc, append-nil}
use Rattle.std.specs.Prelude.{ℤ, Ok}
use Rattle.std.specs.List.{AllByRecursion}
use Rattle.coef_block.specs.Block.{IsBlock}
use Rattle.bool_coder.specs.BoolStream.{Interval, opening, after}
use Rattle.bool_coder.specs.BoolReading.{next_bit, reading, IsReading}
use Rattle.adapt_bins.specs.Events.{probability, bools_after, bools_of}
use Rattle.block_spec.specs.Grid.{Grid, IsGrid}
use Rattle.block_spec.specs.SegmentEvents.{segment_events, next_events}
use Rattle.block_spec.proofs.Segments.{segment_more}
use Rattle.block_spec.specs.ReadingLaws.{HaveGiven, GivesNext}
use Rattle.block_spec.proofs.Spelling.{Events, AreRead}

-- the events of blocks begin with those of the first ones
abbrev Begins : Grid → List (List ℤ) → List (List ℤ) → Type 0
Begins g xs ys = (events : Events) × (segment_events g (xs ++ ys) ≡ segment_events g xs ++ events)

events_first : (g : Grid) (xs ys : List (List ℤ)) → IsGrid g → Begins g xs ys
events_first g xs [] is =
    ([], ap (segment_events g) (append-nil xs) ∙ sym (append-nil (segment_events g xs)))
events_first g xs (y ∷ ys) is =
    let rest = events_first g (xs ++ y ∷ []) ys is in
    let next = next_events g xs y in (
      next ++ rest.0,
      ap (segment_events g) (sym (append_assoc xs (y ∷ []) ys)) ∙ rest.1
          ∙ ap (λ (es : Events). es ++ rest.0) (segment_more g xs y is)
          ∙ append_assoc (segment_events g xs) next rest.0,
    )

bools_first : (earlier es fs : Events)
    → bools_after earlier (es ++ fs) ≡ bools_after earlier es ++ bools_after (earlier ++ es) fs
bools_first earlier [] fs = ap (λ (all : Events). bools_after all fs) (sym (append-nil earlier))
bools_first earlier (e ∷ es) fs =
    ap (λ (bs : Events). (probability earlier e.0, e.1) ∷ bs)
    (bools_first (earlier ++ e ∷ []) es fs
    ∙ ap (λ (all : Events). bools_after (earlier ++ e ∷ []) es ++ bools_after all fs)
    (append_assoc earlier (e ∷ []) es))

abbrev Given : List ℕ → Interval → Events → Type 0
Given bytes i bools =
    reading bytes i (map (λ (b : ℕ × Bool). b.0) bools) ≡ map (λ (b : ℕ × Bool). b.1) bools

bools_given : (bytes : List ℕ) (i : Interval) (xs ys : Events) → Given bytes i (xs ++ ys)
    → Given bytes i xs
bools_given bytes i [] ys h = refl
bools_given bytes i (x ∷ xs) ys h =
    let bit : next_bit bytes i x.0 ≡ x.1 = ap (λ (l : List Bool). get_or l 0 false) h in
    ap₂ (λ (b : Bool) (bs : List Bool). b ∷ bs) bit
    (bools_given bytes (after i (x.0, next_bit bytes i x.0)) xs ys (ap (drop 1) h))

events_given : (bytes : List ℕ) (es fs : Events) → AreRead bytes (es ++ fs) → AreRead bytes es
events_given bytes es fs h =
    bools_given bytes opening (bools_of es) (bools_after ([] ++ es) fs)
    (subst (IsReading bytes) (bools_first [] es fs) h)

blocks_given : (g : Grid) (bytes : List ℕ) (xs ys : List (List ℤ)) → IsGrid g
    → AreRead bytes (segment_events g (xs ++ ys)) → AreRead bytes (segment_events g xs)
blocks_given g bytes xs ys is h =
    let begins = events_first g xs ys is in
    events_given bytes (segment_events g xs) begins.0
    (subst (AreRead bytes) begins.1 h)

all_first : (xs ys : List (List ℤ)) → AllByRecursion IsBlock (xs ++ ys) → AllByRecursion IsBlock xs
all_first [] ys all = tt
all_first (x ∷ xs) ys all = (all.0, all_first xs ys all.1)

all_next : (xs : List (List ℤ)) (y : List ℤ) (ys : List (List ℤ))
    → AllByRecursion IsBlock (xs ++ y ∷ ys) → IsBlock y
all_next [] y ys all = all.0
all_next (x ∷ xs) y ys all = all_next xs y ys all.1

all_more : (xs : List (List ℤ)) (y : List ℤ) → AllByRecursion IsBlock xs → IsBlock y
    → AllByRecursion IsBlock (xs ++ y ∷ [])
all_more [] y all is = (is, tt)
all_more (x ∷ xs) y all is = (all.0, all_more xs y all.1 is)

-- bytes that have given blocks have given the first of them
pub given_first : (g : Grid) (bytes : List ℕ) (xs ys : List (List ℤ)) → HaveGiven g bytes (xs ++ ys)
    → HaveGiven g bytes xs
given_first g bytes xs ys have = record {
  grid = have.grid;
  each = all_first xs ys have.each;
  reading = blocks_given g bytes xs ys have.grid have.reading;
}

-- and the next of them
pub given_next : (g : Grid) (bytes : List ℕ) (xs : List (List ℤ)) (y : List ℤ) (ys : List (List ℤ))
    → HaveGiven g bytes (xs ++ y ∷ ys) → GivesNext g bytes xs (Ok y)
given_next g bytes xs y ys have =
    let more : HaveGiven g bytes ((xs ++ y ∷ []) ++ ys) =
    subst (HaveGiven g bytes) (sym (append_assoc xs (y ∷ []) ys)) have in (
      all_next xs y ys have.each,
      subst (AreRead bytes) (segment_more g xs y have.grid)
          (given_first g bytes (xs ++ y ∷ []) ys more).reading,
    )

-- a block more
pub given_more : (g : Grid) (bytes : List ℕ) (xs : List (List ℤ)) (y : List ℤ)
    → HaveGiven g bytes xs → GivesNext g bytes xs (Ok y) → HaveGiven g bytes (xs ++ y ∷ [])
given_more g bytes xs y have next = record {
  grid = have.grid;
  each = all_more xs y have.each next.0;
  reading = subst (AreRead bytes) (sym (segment_more g xs y have.grid)) next.1;
}
