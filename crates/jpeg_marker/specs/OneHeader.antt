-- Law: bytes have one header, or none and one refusal (ITU-T T.81, B.1.1, B.2.1).
use Rattle.std.specs.Prelude.{ℕ, ◌≡◌, List, [], ◌∷◌, ◌++◌}
use Rattle.jpeg_marker.specs.declared.refusal.HeaderRefusal.{HeaderRefusal}
use Rattle.jpeg_marker.specs.declared.scans.Scans.{Scans}
use Rattle.jpeg_marker.specs.MarkerSegments.{Segment}
use Rattle.jpeg_marker.specs.Plans.{PlanFields}
use Rattle.jpeg_marker.specs.Walks.{Walk, walk_text}
use Rattle.jpeg_marker.specs.HeaderPlan.{IsHeader, Opens, OpensNot, AcceptsNext, RefusesNext}

-- bytes that begin with a header determine its segments
abbrev pub OneList : Type 0
OneList =
    (w : Walk) (bytes rest more : List ℕ) (before others : List Segment) (scan end : Segment)
    → IsHeader w before scan → IsHeader w others end
    → bytes ≡ walk_text w (before ++ scan ∷ []) ++ rest
    → bytes ≡ walk_text w (others ++ end ∷ []) ++ more → (before ≡ others) × (scan ≡ end)
    × (rest ≡ more)

-- so they determine the plan
abbrev pub OnePlan : Type 0
OnePlan =
    (scans : Scans) (bytes : List ℕ) (plan other : PlanFields) → Opens scans bytes plan
    → Opens scans bytes other → plan ≡ other

-- bytes that begin with no header determine the first check that fails
abbrev pub OneRefusal : Type 0
OneRefusal =
    (scans : Scans) (bytes : List ℕ) (refusal other : HeaderRefusal)
    → OpensNot scans bytes refusal → OpensNot scans bytes other → refusal ≡ other

-- no bytes do both
abbrev pub NeverBoth : Type 0
NeverBoth =
    (scans : Scans) (bytes : List ℕ) (plan : PlanFields) (refusal : HeaderRefusal)
    → Opens scans bytes plan → OpensNot scans bytes refusal → ⊥

-- bytes with the header of a further scan at a place, after a plan, determine its plan
abbrev pub OneNextPlan : Type 0
OneNextPlan =
    (plan : PlanFields) (bytes : List ℕ) (place : ℕ) (next other : PlanFields)
    → AcceptsNext plan bytes place next → AcceptsNext plan bytes place other → next ≡ other

-- bytes without one there determine the first check that fails
abbrev pub OneNextRefusal : Type 0
OneNextRefusal =
    (plan : PlanFields) (bytes : List ℕ) (place : ℕ) (refusal other : HeaderRefusal)
    → RefusesNext plan bytes place refusal → RefusesNext plan bytes place other → refusal ≡ other

-- no bytes do both
abbrev pub NeverBothNext : Type 0
NeverBothNext =
    (plan : PlanFields) (bytes : List ℕ) (place : ℕ) (next : PlanFields) (refusal : HeaderRefusal)
    → AcceptsNext plan bytes place next → RefusesNext plan bytes place refusal → ⊥
