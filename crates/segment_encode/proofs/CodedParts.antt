-- Segments that are coded one after another.
use Rattle.std.proofs.Common.{◌≡◌, ℕ, zero, suc, ◌+◌, ◌<◌, List, [], ◌∷◌, ◌++◌, length, map, take, drop, get_or, refl, sym, ap, subst, ◌∙◌, arith}
use Rattle.std.specs.Prelude.{All, slice_set}
use Rattle.std.proofs.lemmas.List.{take_more}
use Rattle.std.proofs.lemmas.List.Elements.{All-cons, All-head, All-nil, All-tail, All-get_or}
use Rattle.jpeg_marker.specs.Plans.{PlanFields}
use Rattle.segment_code.specs.ReadyParts.{EncoderSeen, IsEncoderFor, IsReady, ReadyFields}
use Rattle.segment_code.specs.ScanPasses.{IsNoPart, IsPartStream}
use Rattle.segment_encode.specs.Lanes.{AreMade, AreOfAFile, CanCode}
use Rattle.segment_encode.proofs.StreamsMade.{made_more, mapped_on}

-- an encoder for a plan can code the segments of the plan
pub all_can : (e : EncoderSeen) (plan : PlanFields) (rs : List ReadyFields) → IsEncoderFor plan e
    → All IsReady rs → All (λ (r : ReadyFields). r.part.plan ≡ plan) rs → All (CanCode e) rs
all_can e plan [] suits ready same = All-nil (CanCode e)
all_can e plan (r ∷ rs) suits ready same =
    let here : CanCode e r = record {
      ready = All-head IsReady r rs ready;
      encoder = subst (λ (p : PlanFields). IsEncoderFor p e)
          (sym (All-head (λ (x : ReadyFields). x.part.plan ≡ plan) r rs same)) suits;
    } in
    All-cons (CanCode e) r rs here (all_can e plan rs suits (All-tail IsReady r rs ready)
    (All-tail (λ (x : ReadyFields). x.part.plan ≡ plan) r rs same))

-- where the rest of two lists is the same, so is the next item
pub same_next : (xs ys : List ReadyFields) (i : ℕ) (d : ReadyFields) → drop i xs ≡ drop i ys
    → get_or xs i d ≡ get_or ys i d
same_next xs ys i d same =
    sym (first_of xs i d) ∙ ap (λ (l : List ReadyFields). get_or l 0 d) same ∙ first_of ys i d
  where
    first_of : (zs : List ReadyFields) (n : ℕ) (e : ReadyFields) → get_or (drop n zs) 0 e ≡ get_or zs n e
    first_of zs zero e = refl
    first_of [] (suc n) e = refl
    first_of (z ∷ zs) (suc n) e = first_of zs n e

past_set : (xs : List ReadyFields) (i : ℕ) (x : ReadyFields)
    → drop (suc i) (slice_set xs i x) ≡ drop (suc i) xs
past_set [] zero x = refl
past_set [] (suc i) x = refl
past_set (y ∷ ys) zero x = refl
past_set (y ∷ ys) (suc i) x = past_set ys i x

past_one : (xs : List ReadyFields) (i : ℕ) → drop (suc i) xs ≡ drop 1 (drop i xs)
past_one xs zero = refl
past_one [] (suc i) = refl
past_one (x ∷ xs) (suc i) = past_one xs i

-- and so is the rest after an item was set
pub same_rest : (xs ys next : List ReadyFields) (i : ℕ) (x : ReadyFields) → drop i xs ≡ drop i ys
    → next ≡ slice_set xs i x → drop (i + 1) next ≡ drop (i + 1) ys
same_rest xs ys next i x same is =
    let e : i + 1 ≡ suc i = omega arith in
    ap (λ (n : ℕ). drop n next) e ∙ ap (drop (suc i)) is ∙ past_set xs i x ∙ past_one xs i
    ∙ ap (drop 1) same ∙ sym (past_one ys i) ∙ ap (λ (n : ℕ). drop n ys) (sym e)

-- the next item can be coded, if all could be at first
pub can_next : (e : EncoderSeen) (xs ys : List ReadyFields) (i : ℕ) (d now : ReadyFields)
    → drop i xs ≡ drop i ys → i < length ys → now ≡ get_or xs i d → All (CanCode e) ys → CanCode e now
can_next e xs ys i d now same below is all =
    subst (CanCode e) (sym (is ∙ same_next xs ys i d same)) (All-get_or (CanCode e) ys i d below all)

-- before the first stream
pub none_made : {V : Type 0} (part : V → List ℕ) (rs : List ReadyFields) (streams : List V)
    → streams ≡ [] → AreMade (take 0 rs) (map part streams)
none_made part rs streams none = rw none tt

-- one stream more
pub made_next : {V : Type 0} (part : V → List ℕ) (rs : List ReadyFields) (i : ℕ)
    (streams next : List V) (stream : V) (d : ReadyFields) → i < length rs
    → AreMade (take i rs) (map part streams) → IsPartStream (get_or rs i d).part (part stream)
    → next ≡ streams ++ stream ∷ [] → AreMade (take (i + 1) rs) (map part next)
made_next part rs i streams next stream d below made is kept =
    subst (λ (l : List ReadyFields). AreMade l (map part next)) (sym (take_more rs i d below))
    (subst (λ (s : List (List ℕ)). AreMade (take i rs ++ get_or rs i d ∷ []) s)
    (sym (ap (map part) kept ∙ mapped_on part streams (stream ∷ [])))
    (made_more (take i rs) (get_or rs i d ∷ []) (map part streams) (part stream ∷ []) made (is, tt)))

-- a segment of a file isn't refused
pub none_refused : (rs : List ReadyFields) (i : ℕ) (d : ReadyFields) → i < length rs
    → IsNoPart (get_or rs i d).part → AreOfAFile rs → ⊥
none_refused rs i d below none file =
    All-get_or (λ (r : ReadyFields). IsNoPart r.part → ⊥) rs i d below file none
