-- Segments that are kept, one after another.
use Rattle.std.proofs.Common.{◌≡◌, ℕ, ◌+◌, List, [], ◌∷◌, ◌++◌, length, sym, ap, subst, ◌∙◌, length-append}
use Rattle.std.specs.Prelude.{All, IfOk, Result, Ok, Err}
use Rattle.std.proofs.lemmas.List.Elements.{All-push}
use Rattle.jpeg_marker.specs.Plans.{PlanFields}
use Rattle.segment_code.specs.ReadyParts.{IsReady, ReadyFields}
use Rattle.segment_code.specs.ScanPasses.{IsNoPart, IsPartStream}
use Rattle.segment_encode.specs.Lanes.{AreOfAFile, GiveEach, parts_in}
use Rattle.segment_encode.specs.declared.lanes.Lane.{Lane}
use Rattle.segment_encode.proofs.StreamsMade.{give_more}

pub one_longer : (rs next : List ReadyFields) (r : ReadyFields) → next ≡ rs ++ r ∷ []
    → length next ≡ length rs + 1
one_longer rs next r kept = ap length kept ∙ length-append rs (r ∷ [])

pub more_ready : (rs next : List ReadyFields) (r : ReadyFields) → All IsReady rs → IsReady r
    → next ≡ rs ++ r ∷ [] → All IsReady next
more_ready rs next r all one kept = subst (All IsReady) (sym kept) (All-push IsReady rs r all one)

pub more_planned : (plan : PlanFields) (rs next : List ReadyFields) (r : ReadyFields)
    → All (λ (x : ReadyFields). x.part.plan ≡ plan) rs → r.part.plan ≡ plan → next ≡ rs ++ r ∷ []
    → All (λ (x : ReadyFields). x.part.plan ≡ plan) next
more_planned plan rs next r all one kept =
    subst (All (λ (x : ReadyFields). x.part.plan ≡ plan)) (sym kept)
    (All-push (λ (x : ReadyFields). x.part.plan ≡ plan) rs r all one)

pub more_filed : (rs next : List ReadyFields) (r : ReadyFields) → AreOfAFile rs
    → (IsNoPart r.part → ⊥) → next ≡ rs ++ r ∷ [] → AreOfAFile next
more_filed rs next r all one kept = subst AreOfAFile (sym kept)
    (All-push (λ (x : ReadyFields). IsNoPart x.part → ⊥) rs r all one)

pub one_given : (f : ℕ → List ℕ) (first n : ℕ) (rs next : List ReadyFields) (r : ReadyFields)
    → GiveEach f first rs → first + length rs ≡ n
    → ((stream : List ℕ) → IsPartStream r.part stream → stream ≡ f n) → next ≡ rs ++ r ∷ []
    → GiveEach f first next
one_given f first n rs next r give at one kept =
    subst (GiveEach f first) (sym kept) (give_more f first rs (r ∷ []) give
    (subst (λ (m : ℕ). GiveEach f m (r ∷ [])) (sym at) (one, tt)))

-- what holds of segments holds of the lane that has them
pub if_ok_parts : {E : Type 0} (P : List ReadyFields → Type 0) (result : Result Lane E)
    (rs : List ReadyFields) → IfOk result (λ lane. lane.parts.items ≡ rs) → P rs
    → IfOk result (λ lane. P (parts_in lane))
if_ok_parts P (Ok lane) rs is p = subst P (sym is) p
if_ok_parts P (Err error) rs is p = tt
