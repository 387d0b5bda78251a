-- A file of scans isn't refused, and one that is refused is so for one cause.
use Rattle.std.proofs.Common.{◌≡◌, ℕ, ◌+◌, ◌≤◌, Bool, true, false, List, [], ◌∷◌, ◌++◌, length, drop, refl, sym, ap, ◌∙◌, subst, length-append, length-drop, drop-drop, arith, zero-add}
use Rattle.std.specs.List.{AllByRecursion}
use Rattle.std.proofs.lemmas.Bool.{false≢true}
use Rattle.std.proofs.lemmas.List.{take-append-drop, drop_at}
use Rattle.bit_list.specs.Bits.{IsByte}
use Rattle.jpeg_marker.specs.KnownBefore.{AreKnown}
use Rattle.jpeg_marker.specs.FirstWalks.{opening_walk}
use Rattle.jpeg_marker.specs.HeaderPlan.{Accepts, Begins}
use Rattle.jpeg_marker.specs.Plans.{PlanFields}
use Rattle.jpeg_marker.specs.Walks.{Walk, walk_from, next_walk}
use Rattle.jpeg_marker.proofs.HeaderLaws.{one_begins, one_begins_not, begins_apart}
use Rattle.jpeg_marker.proofs.HeadersTaken.{begun_has_plan, none_known, bytes_from}
use Rattle.jpeg_marker.proofs.OneScans.{one_is_several}
use Rattle.scan_spec.specs.FileParts.{FileScan, IsScanOf, AreScans, is_last}
use Rattle.scan_spec.specs.Items.{Refuses as ItemsRefuse}
use Rattle.scan_spec.specs.Scans.{Mcu}
use Rattle.scan_spec.specs.ScanLaws.{Begins as ScanBegins}
use Rattle.scan_spec.specs.Slots.{shape_of}
use Rattle.scan_spec.specs.declared.refusal.ScanRefusal.{ScanRefusal}
use Rattle.scan_spec.proofs.FilesOnce.{one_scan_of, known_on}
use Rattle.scan_spec.proofs.ItemsOnce.{one_outcome}
use Rattle.scan_spec.proofs.ItemsRead.{ends_so}
use Rattle.scan_spec.proofs.PlanShapes.{begun_is_shape}
use Rattle.scan_spec.proofs.ScanTaken.{read_again}
use Rattle.container_spec.specs.ScansFiles.{FileIsRefused, FileRefusal, Header, Scan, StopsAt, StopsAfter}
use Rattle.container_spec.specs.ScansMeaningLaws.{OneFileRefusal}

-- ---- a scan after a header at a place of a file

-- the place after it
abbrev pub place_after : ℕ → PlanFields → List ℕ → ℕ
place_after place plan scan = place + plan.header_length + length scan

module _ (w : Walk) (file rest : List ℕ) (place : ℕ) (plan : PlanFields) (mcus : List Mcu)
    (pads : List Bool) (all : AllByRecursion IsByte file) (known : AreKnown w.known)
    (within : place ≤ length file) (is : IsScanOf w (drop place file) plan mcus pads rest) where
  header_dropped : drop plan.header_length (drop place file)
      ≡ drop (place + plan.header_length) file
  header_dropped =
      drop-drop plan.header_length place file ∙ ap (λ n. drop n file) (omega arith)

  -- what follows it
  pub rest_at : rest ≡ drop (place_after place plan is.scan) file
  rest_at =
      sym (drop_at is.scan rest (length is.scan) refl)
      ∙ ap (drop (length is.scan)) (sym is.text ∙ header_dropped)
      ∙ drop-drop (length is.scan) (place + plan.header_length) file
      ∙ ap (λ n. drop n file) (omega arith)

  pub after_within : place_after place plan is.scan ≤ length file
  after_within =
      let bytes : List ℕ = drop place file in
      let has = (begun_has_plan w bytes plan (bytes_from place file all) known is.header).within in
      omega (
        arith,
        within,
        has,
        ap length is.text,
        length-drop plan.header_length bytes,
        length-drop place file,
        length-append is.scan rest,
      )

  begun_at : ScanBegins (shape_of plan) mcus pads file (place + plan.header_length)
      (place_after place plan is.scan)
  begun_at = record {
    scan = is.scan;
    is = is.is;
    text = sym header_dropped ∙ is.text ∙ ap (λ (l : List ℕ). is.scan ++ l) rest_at;
    within = after_within;
    long = refl;
  }

  -- it isn't refused
  scan_apart : (refusal : ScanRefusal)
      → ItemsRefuse (shape_of plan) file (place + plan.header_length) refusal → ⊥
  scan_apart refusal refuses =
      let bytes : List ℕ = drop place file in
      let shape = (begun_is_shape w bytes plan (bytes_from place file all) known is.header).0 in
      let from : ℕ = place + plan.header_length in
      let read = read_again (shape_of plan) file from (place_after place plan is.scan) mcus pads
      shape begun_at in
      let ends = ends_so (shape_of plan) file from _ read.0 shape read.1 in
      (one_outcome (shape_of plan) file from _ _ refusal refusal shape refuses).1 ends

-- ---- where a file stops

-- after a header that is accepted the scan is refused
scan_same : (w : Walk) (file : List ℕ) (plan other : PlanFields) (refusal : ScanRefusal)
    → other ≡ plan → ItemsRefuse (shape_of other) file (w.place + other.header_length) refusal
    → ItemsRefuse (shape_of plan) file (w.place + plan.header_length) refusal
scan_same w file plan other refusal same refuses =
    subst (λ (p : PlanFields). ItemsRefuse (shape_of p) file (w.place + p.header_length) refusal)
    same refuses

-- not at a scan
not_stopped : (w : Walk) (file rest : List ℕ) (plan : PlanFields) (mcus : List Mcu)
    (pads : List Bool) (refusal : FileRefusal) → AllByRecursion IsByte file → AreKnown w.known
    → w.place ≤ length file → IsScanOf w (drop w.place file) plan mcus pads rest
    → StopsAt w file refusal → ⊥
not_stopped w file rest plan mcus pads (Header refusal) all known within is stops =
    begins_apart w (drop w.place file) plan refusal is.header stops
not_stopped w file rest plan mcus pads (Scan refusal) all known within is stops =
    let same = one_begins w (drop w.place file) stops.0 plan stops.1 is.header in
    scan_apart w file rest w.place plan mcus pads all known within is refusal
    (scan_same w file plan stops.0 refusal same stops.2)

-- for one cause
stopped_once : (w : Walk) (file : List ℕ) (refusal other : FileRefusal)
    → AllByRecursion IsByte file → AreKnown w.known → StopsAt w file refusal
    → StopsAt w file other → refusal ≡ other
stopped_once w file (Header r) (Header q) all known a b =
    ap Header (one_begins_not w (drop w.place file) r q a b)
stopped_once w file (Header r) (Scan q) all known a b =
    absurd (begins_apart w (drop w.place file) b.0 r b.1 a)
stopped_once w file (Scan r) (Header q) all known a b =
    absurd (begins_apart w (drop w.place file) a.0 q a.1 b)
stopped_once w file (Scan r) (Scan q) all known a b =
    let bytes : List ℕ = drop w.place file in
    let same = one_begins w bytes b.0 a.0 b.1 a.1 in
    let shape = (begun_is_shape w bytes a.0 (bytes_from w.place file all) known a.1).0 in
    ap Scan
    ((one_outcome (shape_of a.0) file (w.place + a.0.header_length) 0 [] r q shape a.2).0
    (scan_same w file a.0 b.0 q same b.2))

last_once : (a b : PlanFields) → a ≡ b → is_last a ≡ true → is_last b ≡ false → ⊥
last_once a b same last other = false≢true (sym other ∙ ap is_last (sym same) ∙ last)

-- after the scans before
stop_is : (w : Walk) (file : List ℕ) (before others : List FileScan) (refusal other : FileRefusal)
    → AllByRecursion IsByte file → AreKnown w.known → w.place ≤ length file
    → StopsAfter w file before refusal → StopsAfter w file others other → refusal ≡ other
stop_is w file [] [] refusal other all known within a b =
    stopped_once w file refusal other all known a b
stop_is w file [] (u ∷ others) refusal other all known within a b =
    absurd (not_stopped w file b.0 u.plan u.mcus u.pads refusal all known within b.1 a)
stop_is w file (s ∷ before) [] refusal other all known within a b =
    absurd (not_stopped w file a.0 s.plan s.mcus s.pads other all known within a.1 b)
stop_is w file (s ∷ before) (u ∷ others) refusal other all known within a b =
    let bytes : List ℕ = drop w.place file in
    let each = bytes_from w.place file all in
    let one = one_scan_of w bytes a.0 b.0 s.plan u.plan s.mcus u.mcus s.pads u.pads each known a.1
    b.1 in
    let place : ℕ = place_after w.place s.plan a.1.scan in
    let long : place ≡ place_after w.place u.plan b.1.scan =
    omega (
      arith,
      ap (λ (p : PlanFields). p.header_length) one.0,
      ap (λ (p : PlanFields). length (drop p.header_length bytes)) one.0,
      ap length one.3,
      ap length a.1.text,
      ap length b.1.text,
      length-append a.1.scan a.0,
      length-append b.1.scan b.0,
    ) in
    let there : StopsAfter (next_walk u.plan.known place) file others other =
    subst (λ n. StopsAfter (next_walk u.plan.known n) file others other) (sym long) b.3 in
    stop_is (next_walk s.plan.known place) file before others refusal other all
    (known_on w bytes a.0 s.plan s.mcus s.pads each known a.1)
    (after_within w file a.0 w.place s.plan s.mcus s.pads all known within a.1) a.3
    (subst (λ (p : PlanFields). StopsAfter (next_walk p.known place) file others other)
    (sym one.0) there)

pub one_file_refusal : OneFileRefusal
one_file_refusal file refusal other all a b =
    stop_is opening_walk file a.before b.before refusal other all none_known (omega arith) a.stops
    b.stops

-- ---- a file of scans

-- the scan after a header that is moved to a place
moved : (w : Walk) (place : ℕ) (bytes rest : List ℕ) (plan : PlanFields) (mcus : List Mcu)
    (pads : List Bool) → AllByRecursion IsByte bytes → AreKnown w.known
    → IsScanOf w bytes plan mcus pads rest
    → IsScanOf (walk_from w.known w.scans place w.start) bytes plan mcus pads rest
moved w place bytes rest plan mcus pads all known is = record {
  header = subst
      (λ (l : List ℕ). Begins (walk_from w.known w.scans place w.start) l plan)
      (take-append-drop plan.header_length bytes)
      ((begun_has_plan w bytes plan all known is.header).alone place
      (drop plan.header_length bytes));
  scan = is.scan;
  is = is.is;
  text = is.text;
}

-- from a place on
pub not_refused : (w : Walk) (file trailer : List ℕ) (place : ℕ) (scans before : List FileScan)
    (refusal : FileRefusal) → AllByRecursion IsByte file → AreKnown w.known
    → place ≤ length file → AreScans w (drop place file) scans trailer
    → StopsAfter (walk_from w.known w.scans place w.start) file before refusal → ⊥
not_refused w file trailer place [] before refusal all known within are stops = absurd are
not_refused w file trailer place (s ∷ []) [] refusal all known within are stops =
    not_stopped (walk_from w.known w.scans place w.start) file trailer s.plan s.mcus s.pads refusal
    all known within
    (moved w place (drop place file) trailer s.plan s.mcus s.pads (bytes_from place file all) known
    are.0) stops
not_refused w file trailer place (s ∷ t ∷ scans) [] refusal all known within are stops =
    not_stopped (walk_from w.known w.scans place w.start) file are.0 s.plan s.mcus s.pads refusal
    all known within
    (moved w place (drop place file) are.0 s.plan s.mcus s.pads (bytes_from place file all) known
    are.1) stops
not_refused w file trailer place (s ∷ []) (u ∷ before) refusal all known within are stops =
    let bytes : List ℕ = drop place file in
    let each = bytes_from place file all in
    let one = one_scan_of (walk_from w.known w.scans place w.start) bytes trailer stops.0 s.plan
    u.plan s.mcus u.mcus s.pads u.pads each known
    (moved w place bytes trailer s.plan s.mcus s.pads each known are.0) stops.1 in
    last_once s.plan u.plan one.0 are.1 stops.2
not_refused w file trailer place (s ∷ t ∷ scans) (u ∷ before) refusal all known within are stops =
    let bytes : List ℕ = drop place file in
    let each = bytes_from place file all in
    let here : Walk = walk_from w.known w.scans place w.start in
    let one = one_scan_of here bytes are.0 stops.0 s.plan u.plan s.mcus u.mcus s.pads u.pads each
    known (moved w place bytes are.0 s.plan s.mcus s.pads each known are.1) stops.1 in
    let next : ℕ = place_after place u.plan stops.1.scan in
    let rest = one.3
    ∙ rest_at here file stops.0 place u.plan u.mcus u.pads all known within stops.1 in
    not_refused (next_walk s.plan.known 0) file trailer next (t ∷ scans) before refusal all
    (known_on w bytes are.0 s.plan s.mcus s.pads each known are.1)
    (after_within here file stops.0 place u.plan u.mcus u.pads all known within stops.1)
    (subst (λ (l : List ℕ). AreScans (next_walk s.plan.known 0) l (t ∷ scans) trailer) rest are.3)
    (subst (λ (p : PlanFields). StopsAfter (next_walk p.known next) file before refusal)
    (sym one.0) stops.3)

-- ---- a file of one scan is refused for its scan
pub scan_alone : (file : List ℕ) (plan : PlanFields) (refusal : ScanRefusal) → Accepts file plan
    → ItemsRefuse (shape_of plan) file plan.header_length refusal
    → FileIsRefused file (Scan refusal)
scan_alone file plan refusal accepted refuses = record {
  before = [];
  stops = (
    plan,
    one_is_several file plan accepted,
    subst (λ n. ItemsRefuse (shape_of plan) file n refusal) (sym (zero-add plan.header_length))
        refuses,
  );
}
