-- The streams of lanes, one after another.
use Rattle.std.proofs.Common.{◌≡◌, ℕ, List, [], ◌∷◌, ◌++◌, length, refl, sym, ap, subst, ◌∙◌, arith, append_assoc, append-nil}
use Rattle.std.specs.Prelude.{All, flat_map}
use Rattle.std.proofs.lemmas.Grind.{flat_map-append}
use Rattle.std.proofs.lemmas.List.Elements.{All-head, All-tail}
use Rattle.segment_code.specs.ReadyParts.{ReadyFields}
use Rattle.segment_encode.specs.Lanes.{AreCoded, AreMade, AreOfAFile, HasCoded, parts_in}
use Rattle.segment_encode.specs.declared.lanes.Lane.{Lane}
use Rattle.segment_encode.proofs.StreamsMade.{made_more}

-- of the lanes before they were coded, the streams of the first are there, and the others are those that are left
pub record LanesSoFar (olds rest : List Lane) (streams : List (List ℕ)) : Type 0 where
  pub first : List Lane
  pub later : List Lane
  pub split : olds ≡ first ++ later
  pub coded : AreCoded later rest
  pub made : AreMade (flat_map parts_in first) streams

-- before the first
pub no_lane : (olds all : List Lane) (streams : List (List ℕ)) → AreCoded olds all → streams ≡ []
    → LanesSoFar olds all streams
no_lane olds all streams coded none = rw none (record {
  first = [];
  later = olds;
  split = refl;
  coded = coded;
  made = tt;
})

-- the first of those that are left, as it was
record FirstLeft (later next : List Lane) (lane : Lane) : Type 0 where
  old : Lane
  olds : List Lane
  is : later ≡ old ∷ olds
  has : HasCoded old lane
  coded : AreCoded olds next

first_left : (later next : List Lane) (lane : Lane) → AreCoded later (lane ∷ next)
    → FirstLeft later next lane
first_left [] next lane coded = absurd coded
first_left (o ∷ os) next lane coded = record {
  old = o;
  olds = os;
  is = refl;
  has = coded.0;
  coded = coded.1;
}

-- one lane more
pub one_lane : (olds rest next : List Lane) (lane : Lane) (streams these all : List (List ℕ))
    → LanesSoFar olds rest streams → rest ≡ lane ∷ next
    → ((old : Lane) → HasCoded old lane → AreMade (parts_in old) these)
    → all ≡ streams ++ these → LanesSoFar olds next all
one_lane olds rest next lane streams these all so front made is =
    let left = first_left so.later next lane (subst (AreCoded so.later) front so.coded) in
    let parts : flat_map parts_in (so.first ++ left.old ∷ []) ≡ flat_map parts_in so.first ++ parts_in left.old =
    flat_map-append parts_in so.first (left.old ∷ [])
    ∙ ap (λ (l : List ReadyFields). flat_map parts_in so.first ++ l) (append-nil (parts_in left.old)) in
    record {
      first = so.first ++ left.old ∷ [];
      later = left.olds;
      split = so.split ∙ ap (λ (l : List Lane). so.first ++ l) left.is
          ∙ sym (append_assoc so.first (left.old ∷ []) left.olds);
      coded = left.coded;
      made = rw (parts, is) (made_more (flat_map parts_in so.first) (parts_in left.old) streams these
          so.made (made left.old left.has));
    }

-- after the last one
none_left : (later : List Lane) → AreCoded later [] → later ≡ []
none_left [] coded = refl
none_left (o ∷ os) coded = absurd coded

pub all_lanes_made : (olds rest : List Lane) (streams : List (List ℕ)) → LanesSoFar olds rest streams
    → length rest ≡ 0 → AreMade (flat_map parts_in olds) streams
all_lanes_made olds [] streams so none =
    let all : so.first ≡ olds =
    sym (so.split ∙ ap (λ (l : List Lane). so.first ++ l) (none_left so.later so.coded)
    ∙ append-nil so.first) in
    subst (λ (l : List Lane). AreMade (flat_map parts_in l) streams) all so.made
all_lanes_made olds (l ∷ rest) streams so none = absurd (omega (arith, none))

-- a lane of a file isn't refused
member : (P : Lane → Type 0) (first later : List Lane) (lane : Lane) → All P (first ++ lane ∷ later)
    → P lane
member P [] later lane all = All-head P lane later all
member P (f ∷ fs) later lane all =
    member P fs later lane (All-tail P f (fs ++ lane ∷ later) all)

pub lane_not_refused : (olds rest next : List Lane) (lane : Lane) (streams : List (List ℕ))
    → LanesSoFar olds rest streams → rest ≡ lane ∷ next
    → ((old : Lane) → HasCoded old lane → AreOfAFile (parts_in old) → ⊥)
    → All (λ l. AreOfAFile (parts_in l)) olds → ⊥
lane_not_refused olds rest next lane streams so front refused files =
    let left = first_left so.later next lane (subst (AreCoded so.later) front so.coded) in
    let file : (λ (l : Lane). AreOfAFile (parts_in l)) left.old =
    member (λ l. AreOfAFile (parts_in l)) so.first left.olds left.old
    (subst (All (λ l. AreOfAFile (parts_in l)))
    (so.split ∙ ap (λ (l : List Lane). so.first ++ l) left.is) files) in
    refused left.old left.has file
