-- Statement: the headers that are accepted, with what they say, and why others are refused (ITU-T T.81, B.2.1).
use Rattle.std.specs.Prelude.{ℕ, ◌≡◌, ◌≢◌, ◌⊎◌, List, [], ◌∷◌, ◌++◌, length, take, drop, Option, Some}
use Rattle.jpeg_marker.specs.declared.refusal.HeaderRefusal.{HeaderRefusal}
use Rattle.jpeg_marker.specs.declared.refusal.HeaderRefusal.TheVariants.{NotJpeg}
use Rattle.jpeg_marker.specs.declared.scans.Scans.{Scans}
use Rattle.jpeg_marker.specs.declared.scans.Scans.TheVariants.{One}
use Rattle.jpeg_marker.specs.MarkerSegments.{Segment, IsWhole, segment_text}
use Rattle.jpeg_marker.specs.Walks.{Walk, first_walk, next_walk, walk_text, walk_place}
use Rattle.jpeg_marker.specs.Plans.{PlanFields, plan_after}
use Rattle.jpeg_marker.specs.GoodSegments.{ArePassed, IsGood, known_after, fault_of, length_place, stuck_at}

-- segments, of which the last and no other is a scan's, each good after those before it
pub record IsHeader (w : Walk) (before : List Segment) (scan : Segment) : Type 0 where
  pub passed : ArePassed w before
  pub good : IsGood w before scan
  pub last : scan.code ≡ 0xda

-- what a header says
abbrev pub plan_of : Walk → List Segment → Segment → Option PlanFields
plan_of w before scan =
    let known = known_after w.known before in
    plan_after known known.frame (length (walk_text w (before ++ scan ∷ []))) scan.body

-- the bytes begin with a header that says this
pub record Begins (w : Walk) (bytes : List ℕ) (plan : PlanFields) : Type 0 where
  pub before : List Segment
  pub scan : Segment
  pub rest : List ℕ
  pub header : IsHeader w before scan
  pub text : bytes ≡ walk_text w (before ++ scan ∷ []) ++ rest
  pub says : plan_of w before scan ≡ Some plan

-- after some good segments, none of them a scan's, the bytes continue with no whole segment, or with one that fails
-- a check
abbrev pub IsStuck : Walk → List Segment → List ℕ → HeaderRefusal → Type 0
IsStuck w before rest refusal =
    (stuck_at (walk_place w before) rest ≡ Some refusal)
    ⊎ ((s : Segment) × (after : List ℕ) × IsWhole s × (rest ≡ segment_text s ++ after)
    × (fault_of w before (length_place w before s) s ≡ Some refusal))

-- the bytes begin as a header does, and stop being one with this refusal (own)
pub record Stops (w : Walk) (bytes : List ℕ) (refusal : HeaderRefusal) : Type 0 where
  pub before : List Segment
  pub rest : List ℕ
  pub passed : ArePassed w before
  pub text : bytes ≡ walk_text w before ++ rest
  pub stuck : IsStuck w before rest refusal

-- they don't begin with one that is accepted, and the first check that fails gives this refusal
abbrev pub BeginsNot : Walk → List ℕ → HeaderRefusal → Type 0
BeginsNot w bytes refusal =
    ((take (length w.start) bytes ≢ w.start) × (refusal ≡ NotJpeg)) ⊎ Stops w bytes refusal

-- the bytes begin with the first header of a file of one scan, or of a file that may have several, and it says this
abbrev pub Opens : Scans → List ℕ → PlanFields → Type 0
Opens scans bytes plan = Begins (first_walk scans) bytes plan

-- they don't, and the first check that fails gives this refusal
abbrev pub OpensNot : Scans → List ℕ → HeaderRefusal → Type 0
OpensNot scans bytes refusal =
    ((take 2 bytes ≢ 0xff ∷ 0xd8 ∷ []) × (refusal ≡ NotJpeg))
    ⊎ Stops (first_walk scans) bytes refusal

-- the bytes begin with the header of a file of one scan, and it says this
abbrev pub Accepts : List ℕ → PlanFields → Type 0
Accepts bytes plan = Opens One bytes plan

-- they don't, and the first check that fails gives this refusal
abbrev pub Refuses : List ℕ → HeaderRefusal → Type 0
Refuses bytes refusal = OpensNot One bytes refusal

-- the header of a further scan, after one with a plan, is at a place of the bytes, and says this
abbrev pub AcceptsNext : PlanFields → List ℕ → ℕ → PlanFields → Type 0
AcceptsNext plan bytes place next = Begins (next_walk plan.known place) (drop place bytes) next

-- none is there, and the first check that fails gives this refusal
abbrev pub RefusesNext : PlanFields → List ℕ → ℕ → HeaderRefusal → Type 0
RefusesNext plan bytes place refusal =
    Stops (next_walk plan.known place) (drop place bytes) refusal
