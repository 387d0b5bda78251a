-- A header at its place, and where a file is refused after it.
use Rattle.std.proofs.Common.{◌≡◌, ℕ, zero, suc, ◌+◌, ◌≤◌, ◌<◌, true, false, List, [], ◌∷◌, ◌++◌, length, drop, inr, refl, sym, ap, ap₂, ◌∙◌, subst, arith, drop-drop, append_assoc, length-append, zero-add, get_or, Some}
use Rattle.std.specs.Prelude.{slice_get}
use Rattle.std.specs.List.{AllByRecursion}
use Rattle.std.proofs.lemmas.List.{take-append-drop}
use Rattle.bit_list.specs.Bits.{IsByte}
use Rattle.jpeg_marker.specs.AcceptedPlans.{CanScan, HasBegun}
use Rattle.jpeg_marker.specs.KnownBefore.{AreKnown}
use Rattle.jpeg_marker.specs.FirstWalks.{opening_walk}
use Rattle.jpeg_marker.specs.HeaderPlan.{Accepts, Begins, AcceptsNext, RefusesNext}
use Rattle.jpeg_marker.specs.Plans.{PlanFields, plan_at}
use Rattle.jpeg_marker.specs.Walks.{Walk, next_walk}
use Rattle.jpeg_marker.specs.declared.refusal.HeaderRefusal.{HeaderRefusal}
use Rattle.jpeg_marker.proofs.CodedComponents.{HaveCoded, none_coded, more_coded, few_coded}
use Rattle.jpeg_marker.proofs.MovedHeaders.{at_place}
use Rattle.jpeg_marker.proofs.OneScans.{one_is_several, one_is_last, several_is_one}
use Rattle.jpeg_marker.proofs.HeadersTaken.{begun_has_plan, bytes_from, can_scan_at, next_known, none_known}
use Rattle.scan_spec.specs.FileParts.{FileScan, IsScanOf, is_last}
use Rattle.scan_spec.specs.Items.{Refuses as ItemsRefuse}
use Rattle.scan_spec.specs.Scans.{IsScan}
use Rattle.scan_spec.specs.Slots.{Shape, shape_of}
use Rattle.scan_spec.specs.declared.refusal.ScanRefusal.{ScanRefusal}
use Rattle.segment_code.specs.FileStarts.{StartsFields}
use Rattle.segment_code.specs.Starting.{AreStarts}
use Rattle.container_spec.specs.ScansFiles.{FileRefusal, FileIsRefused, Header, Scan, StopsAfter}
use Rattle.lepton_encode.specs.FileHeads.{AreHeads, EndsAt, Follows, IsHead, walk_after}
use Rattle.lepton_encode.specs.declared.heads.Head.{Head}

pub are_bytes : (xs : List ℕ) → ((i : ℕ) → get_or xs i 0 < 256) → AllByRecursion IsByte xs
are_bytes [] below = tt
are_bytes (x ∷ xs) below = (below 0, are_bytes xs (λ i. below (suc i)))

-- the first header of a file
abbrev pub head_at : ℕ → PlanFields → Head
head_at place plan = record { place = place; plan = plan }

pub plan_there : (plan : PlanFields) → plan_at 0 plan ≡ plan
plan_there plan = ap (λ (n : ℕ). record plan { header_length = n }) (zero-add plan.header_length)

pub first_head : (file : List ℕ) (plan : PlanFields) → Begins opening_walk file plan
    → IsHead opening_walk file (head_at 0 plan)
first_head file plan opens = record {
  plan = plan;
  known = none_known;
  within = omega arith;
  begins = opens;
  place = refl;
  moved = sym (plan_there plan);
}

-- a file of one scan has one header
pub one_head : (file : List ℕ) (plan : PlanFields) → AllByRecursion IsByte file
    → Accepts file plan → AreHeads opening_walk file (head_at 0 plan ∷ [])
one_head file plan all accepts =
    (first_head file plan (one_is_several file plan accepts), one_is_last file plan all accepts)

-- there is a header
pub heads_some : (file : List ℕ) (heads : List Head) → AreHeads opening_walk file heads
    → 1 ≤ length heads
heads_some file [] are = absurd are
heads_some file (h ∷ heads) are = omega arith

-- and a file of one header has one scan
pub one_accepted : (file : List ℕ) (heads : List Head) (i : ℕ) (h : Head)
    → AllByRecursion IsByte file → AreHeads opening_walk file heads → length heads ≡ 1
    → slice_get heads i ≡ Some h → Accepts file h.plan
one_accepted file [] i h all are one e = absurd are
one_accepted file (x ∷ []) (suc i) h all are one e = cc
one_accepted file (x ∷ []) zero h all are one e =
    let same : x ≡ h = cc in
    let is = are.0 in
    let plan = is.moved ∙ plan_there is.plan in
    subst (λ (y : Head). Accepts file y.plan) same
    (subst (Accepts file) (sym plan)
    (several_is_one file is.plan all is.begins
    (sym (ap (λ (p : PlanFields). is_last p) plan) ∙ are.1)))
one_accepted file (x ∷ g ∷ heads) i h all are one e = absurd (omega (arith, one))

module _ (w : Walk) (file : List ℕ) (h : Head) (all : AllByRecursion IsByte file)
    (is : IsHead w file h) where
  pub can : CanScan file h.plan
  can =
      subst (CanScan file) (sym is.moved)
      (can_scan_at w file w.place is.plan all is.known is.within is.begins)

  -- the bytes from the header on
  abbrev pub bytes : List ℕ
  bytes = drop w.place file

  pub has : HasBegun w bytes is.plan
  has = begun_has_plan w bytes is.plan (bytes_from w.place file all) is.known is.begins

  -- it is the same header wherever it is
  pub header_at : Begins (at_place w 0) bytes is.plan
  header_at =
      subst (λ (l : List ℕ). Begins (at_place w 0) l is.plan)
      (take-append-drop is.plan.header_length bytes)
      (has.alone 0 (drop is.plan.header_length bytes))

  pub known_is : h.plan.known ≡ is.plan.known
  known_is = ap (λ (p : PlanFields). p.known) is.moved

  pub long_is : h.plan.header_length ≡ w.place + is.plan.header_length
  long_is = ap (λ (p : PlanFields). p.header_length) is.moved

  pub shape_is : shape_of h.plan ≡ shape_of is.plan
  shape_is = ap shape_of is.moved

  pub last_is : is_last h.plan ≡ is_last is.plan
  last_is = ap is_last is.moved

  pub known_next : AreKnown h.plan.known
  known_next = subst AreKnown (sym known_is) (next_known is.plan.known has.known)

  -- one more header
  pub coded_next : (count : ℕ) → HaveCoded w.known count → HaveCoded h.plan.known (suc count)
  coded_next count coded =
      subst (λ k. HaveCoded k (suc count)) (sym known_is)
      (more_coded w bytes is.plan count has coded)

  -- its scan, and what follows it
  module _ (after : ℕ) (ends : EndsAt file h after) where
    pub scan_of : IsScanOf w bytes is.plan ends.mcus ends.pads (drop after file)
    scan_of = record {
      header = is.begins;
      scan = ends.scan.scan;
      is = subst (λ (s : Shape). IsScan s ends.mcus ends.pads ends.scan.scan) shape_is ends.scan.is;
      text = drop-drop is.plan.header_length w.place file
          ∙ ap (λ n. drop n file) (omega (arith, long_is)) ∙ ends.scan.text;
    }

    pub after_is : after ≡ w.place + is.plan.header_length + length scan_of.scan
    unfolding scan_of
    after_is = let long = ends.scan.long in omega (arith, long, long_is)

    abbrev pub file_scan : FileScan
    file_scan = record { plan = is.plan; mcus = ends.mcus; pads = ends.pads }

    -- where the file is refused after it
    pub stops_on : is_last h.plan ≡ false → (others : List FileScan) (refusal : FileRefusal)
        → StopsAfter (walk_after h after) file others refusal
        → StopsAfter w file (file_scan ∷ others) refusal
    stops_on more others refusal stops = (
      drop after file,
      scan_of,
      sym last_is ∙ more,
      subst (λ (v : Walk). StopsAfter v file others refusal)
          (ap₂ (λ known n. next_walk known n) known_is after_is) stops,
    )

    pub header_stops : (refusal : HeaderRefusal) → RefusesNext h.plan file after refusal
        → StopsAfter (walk_after h after) file [] (Header refusal)
    header_stops refusal refuses = inr refuses

  pub ends_at : (most : ℕ) (starts : StartsFields) → AreStarts h.plan file most starts
      → EndsAt file h starts.trailer
  ends_at most starts have =
      record { mcus = have.mcus; pads = have.pads; scan = have.file.scan }

  -- the next header is after it
  module _ (most : ℕ) (starts : StartsFields) (have : AreStarts h.plan file most starts)
      (place : ℕ) (there : place ≡ starts.trailer) where
    pub ends_there : EndsAt file h place
    ends_there = subst (EndsAt file h) (sym there) (ends_at most starts have)

    module _ (plan : PlanFields) (accepted : AcceptsNext h.plan file place plan) where
      pub place_within : place ≤ length file
      place_within = subst (λ n. n ≤ length file) (sym there) have.file.scan.within

      pub can_next : CanScan file (plan_at place plan)
      can_next =
          can_scan_at (next_walk h.plan.known place) file place plan all known_next place_within
          accepted

      pub follows : (moved : PlanFields) → moved ≡ plan_at place plan
          → Follows file h (record { place = place; plan = moved })
      follows moved is_moved = record {
        ends = ends_there;
        head = record {
          plan = plan;
          known = known_next;
          within = place_within;
          begins = accepted;
          place = refl;
          moved = is_moved;
        };
      }

  -- its scan is refused
  pub scan_stops : (refusal : ScanRefusal)
      → ItemsRefuse (shape_of h.plan) file h.plan.header_length refusal
      → StopsAfter w file [] (Scan refusal)
  scan_stops refusal refuses = (
    is.plan,
    is.begins,
    subst (λ n. ItemsRefuse (shape_of is.plan) file n refusal) long_is
        (subst (λ (s : Shape). ItemsRefuse s file h.plan.header_length refusal) shape_is refuses),
  )

-- ---- headers that are found from left to right

-- these headers are before one that is due
pub record AreBefore (file : List ℕ) (heads : List Head) (h : Head) : Type 0 where
  pub walk : Walk
  pub is : IsHead walk file h
  pub coded : HaveCoded walk.known (length heads)
  pub joined : (rest : List Head) → AreHeads walk file (h ∷ rest)
      → AreHeads opening_walk file (heads ++ h ∷ rest)
  pub stops : (others : List FileScan) (refusal : FileRefusal)
      → StopsAfter walk file others refusal → FileIsRefused file refusal

pub none_before : (file : List ℕ) (plan : PlanFields) (heads : List Head) → heads ≡ []
    → Begins opening_walk file plan → AreBefore file heads (head_at 0 plan)
none_before file plan heads none opens = record {
  walk = opening_walk;
  is = first_head file plan opens;
  coded = subst (λ (l : List Head). HaveCoded opening_walk.known (length l)) (sym none) none_coded;
  joined = λ rest are. subst (λ (l : List Head). AreHeads opening_walk file (l ++ head_at 0 plan ∷ rest))
      (sym none) are;
  stops = λ others refusal stops. record { before = others; stops = stops };
}

pub one_longer : (heads : List Head) (h : Head) → length (heads ++ h ∷ []) ≡ suc (length heads)
one_longer heads h = omega (arith, length-append heads (h ∷ []))

module _ (file : List ℕ) (heads : List Head) (h : Head) (all : AllByRecursion IsByte file)
    (before : AreBefore file heads h) where
  pub few_before : length heads < 4
  few_before =
      let coded = coded_next before.walk file h all before.is (length heads) before.coded in
      let few = few_coded h.plan.known (suc (length heads)) coded in
      omega (arith, few)

  pub before_next : (next : Head) → is_last h.plan ≡ false → Follows file h next
      → AreBefore file (heads ++ h ∷ []) next
  before_next next more follows =
      let w = before.walk in
      record {
        walk = walk_after h next.place;
        is = follows.head;
        coded = subst (HaveCoded h.plan.known) (sym (one_longer heads h))
            (coded_next w file h all before.is (length heads) before.coded);
        joined = λ rest are. subst (AreHeads opening_walk file)
            (sym (append_assoc heads (h ∷ []) (next ∷ rest)))
            (before.joined (next ∷ rest) (before.is, more, next.place, follows.ends, are));
        stops = λ others refusal stops.
            before.stops (file_scan w file h all before.is next.place follows.ends ∷ others) refusal
            (stops_on w file h all before.is next.place follows.ends more others refusal stops);
      }

  pub heads_are : is_last h.plan ≡ true → AreHeads opening_walk file (heads ++ h ∷ [])
  heads_are last = before.joined [] (before.is, last)

  pub header_refused : (refusal : HeaderRefusal) → is_last h.plan ≡ false
      → (after : ℕ) × EndsAt file h after × RefusesNext h.plan file after refusal
      → FileIsRefused file (Header refusal)
  header_refused refusal more refuses =
      let w = before.walk in
      before.stops (file_scan w file h all before.is refuses.0 refuses.1 ∷ []) (Header refusal)
      (stops_on w file h all before.is refuses.0 refuses.1 more [] (Header refusal)
      (header_stops w file h all before.is refuses.0 refuses.1 refusal refuses.2))

  pub scan_refused : (refusal : ScanRefusal)
      → ItemsRefuse (shape_of h.plan) file h.plan.header_length refusal
      → FileIsRefused file (Scan refusal)
  scan_refused refusal refuses =
      before.stops [] (Scan refusal)
      (scan_stops before.walk file h all before.is refusal refuses)

-- ---- headers of which the first ones are done

-- a header, and those after it
pub record IsLeft (file : List ℕ) (h : Head) (rest : List Head) : Type 0 where
  pub walk : Walk
  pub are : AreHeads walk file (h ∷ rest)
  pub stops : (others : List FileScan) (refusal : FileRefusal)
      → StopsAfter walk file others refusal → FileIsRefused file refusal

abbrev pub AreLeft : List ℕ → List Head → Type 0
AreLeft file [] = Unit {0}
AreLeft file (h ∷ rest) = IsLeft file h rest

pub all_left : (file : List ℕ) (heads : List Head) → AreHeads opening_walk file heads
    → AreLeft file heads
all_left file [] are = tt
all_left file (h ∷ rest) are = record {
  walk = opening_walk;
  are = are;
  stops = λ others refusal stops. record { before = others; stops = stops };
}

pub head_of : (w : Walk) (file : List ℕ) (h : Head) (rest : List Head)
    → AreHeads w file (h ∷ rest) → IsHead w file h
head_of w file h [] are = are.0
head_of w file h (g ∷ rest) are = are.0

pub left_next : (file : List ℕ) (h : Head) (rest : List Head) → AllByRecursion IsByte file
    → AreLeft file (h ∷ rest) → AreLeft file rest
left_next file h [] all left = tt
left_next file h (g ∷ rest) all left =
    let w = left.walk in
    let is = left.are.0 in
    let after = left.are.2 in
    let ends = left.are.3 in
    record {
      walk = walk_after h after;
      are = left.are.4;
      stops = λ others refusal stops.
          left.stops (file_scan w file h all is after ends ∷ others) refusal
          (stops_on w file h all is after ends left.are.1 others refusal stops);
    }

pub left_refused : (file : List ℕ) (h : Head) (rest : List Head) (refusal : ScanRefusal)
    → AllByRecursion IsByte file → AreLeft file (h ∷ rest)
    → ItemsRefuse (shape_of h.plan) file h.plan.header_length refusal
    → FileIsRefused file (Scan refusal)
left_refused file h rest refusal all left refuses =
    left.stops [] (Scan refusal)
    (scan_stops left.walk file h all (head_of left.walk file h rest left.are) refusal refuses)
