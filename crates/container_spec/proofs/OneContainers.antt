-- A file has one container of each number of segments, and then it isn't refused.
use Rattle.std.proofs.Common.{◌≡◌, ℕ, Bool, true, false, List, [], ◌∷◌, length, take, replicate, refl, sym, ap, ap₂, ◌∙◌, subst, arith}
use Rattle.std.specs.List.{AllByRecursion}
use Rattle.std.proofs.lemmas.Bool.{false≢true}
use Rattle.std.proofs.lemmas.List.{length-replicate}
use Rattle.bit_list.specs.Bits.{IsByte}
use Rattle.jpeg_marker.specs.KnownBefore.{AreKnown}
use Rattle.jpeg_marker.specs.FirstWalks.{opening_walk}
use Rattle.jpeg_marker.specs.Plans.{PlanFields}
use Rattle.jpeg_marker.specs.Walks.{Walk, next_walk}
use Rattle.jpeg_marker.proofs.HeadersTaken.{none_known}
use Rattle.scan_spec.specs.FileParts.{FileScan, IsScanOf, AreScans, is_last}
use Rattle.scan_spec.specs.Scans.{Mcu}
use Rattle.scan_spec.proofs.FilesOnce.{one_scan_of, known_on, one_file, one_is_all}
use Rattle.box_format.specs.Parts.{BoxParts, BoxSeen}
use Rattle.box_format.specs.declared.version.Version.TheVariants.{Fourth}
use Rattle.box_format.specs.declared.version.Version.{Version}
use Rattle.container_spec.specs.Files.{parts_of_file}
use Rattle.box_format.specs.Containers.{all_parts, container_bytes}
use Rattle.container_spec.specs.ScansFiles.{IsScanIn, AreScansIn, HasSeveralScans, IsContainerOf, share_of, version_for}
use Rattle.container_spec.specs.ScansMeaningLaws.{OneContainer, OneContainerOfFile, ContainedIsNotRefused, AcceptedIsNotRefused, SeveralIsNotOne}
use Rattle.container_spec.proofs.FilesRefused.{not_refused}
use Rattle.container_spec.proofs.ScanParts.{rest_bytes}

-- ---- the scans of a container as a file's

-- as many scans
pub record AreFile (w : Walk) (bytes trailer : List ℕ) (count : ℕ) : Type 0 where
  pub scans : List FileScan
  pub are : AreScans w bytes scans trailer
  pub counted : length scans ≡ count

-- a scan before others
before_others : (w : Walk) (bytes rest trailer : List ℕ) (s : FileScan) (scans : List FileScan)
    → IsScanOf w bytes s.plan s.mcus s.pads rest → is_last s.plan ≡ false
    → AreScans (next_walk s.plan.known 0) rest scans trailer
    → AreScans w bytes (s ∷ scans) trailer
before_others w bytes rest trailer s [] is last are = absurd are
before_others w bytes rest trailer s (t ∷ scans) is last are = (rest, is, last, are)

pub as_file : (v : Version) (w : Walk) (mosts bytes trailer : List ℕ) (scans : List BoxSeen)
    → AreScansIn v w mosts bytes trailer scans → AreFile w bytes trailer (length scans)
as_file v w [] bytes trailer [] are = absurd are
as_file v w (most ∷ mosts) bytes trailer [] are = absurd are
as_file v w [] bytes trailer (s ∷ scans) are = absurd are
as_file v w (most ∷ mosts) bytes trailer (s ∷ []) are = record {
  scans = (record { plan = s.plan; mcus = are.0.mcus; pads = are.0.pads }) ∷ [];
  are = (are.0.is, are.1);
  counted = refl;
}
as_file v w (most ∷ mosts) bytes trailer (s ∷ t ∷ scans) are =
    let more = as_file v (next_walk s.plan.known 0) mosts are.0 trailer (t ∷ scans) are.3 in
    let first : FileScan = record { plan = s.plan; mcus = are.1.mcus; pads = are.1.pads } in
    let counted = more.counted in
    record {
      scans = first ∷ more.scans;
      are = before_others w bytes are.0 trailer first more.scans are.1.is are.2 more.are;
      counted = omega (arith, counted);
    }

pub scans_are_several : (mosts made file : List ℕ) → IsContainerOf Fourth mosts made file
    → HasSeveralScans file
scans_are_several mosts made file is =
    let all = as_file Fourth opening_walk mosts file is.trailer is.scans is.are in
    let two = is.enough in
    let counted = all.counted in
    (all.scans, is.trailer, all.are, omega (arith, two, counted))

-- ---- one container

seen_is : (s u : BoxSeen) → s.plan ≡ u.plan → s.parts ≡ u.parts → s ≡ u
seen_is s u a b = rw (a, b) refl

-- the parts of a scan, by what the file determines
abbrev parts_in : Version → ℕ → List ℕ → PlanFields → List Mcu → List Bool → List ℕ → BoxParts
parts_in v most bytes plan mcus pads trailer =
    parts_of_file v plan mcus pads (take plan.header_length bytes) trailer most

seen_once : (v : Version) (w : Walk) (most : ℕ) (bytes rest after trailer tail : List ℕ) (s u : BoxSeen)
    → AllByRecursion IsByte bytes → AreKnown w.known → (rest ≡ after → trailer ≡ tail)
    → IsScanIn v w most bytes rest trailer s → IsScanIn v w most bytes after tail u
    → (s ≡ u) × (rest ≡ after)
seen_once v w most bytes rest after trailer tail s u all known tails x y =
    let one = one_scan_of w bytes rest after s.plan u.plan x.mcus y.mcus x.pads y.pads all known
    x.is y.is in
    let parts = x.parts
    ∙ ap₂ (λ plan mcus. parts_in v most bytes plan mcus x.pads trailer) one.0 one.1
    ∙ ap₂ (λ pads tail. parts_in v most bytes u.plan y.mcus pads tail) one.2 (tails one.3)
    ∙ sym y.parts in
    (seen_is s u one.0 parts, one.3)

plan_once : (v : Version) (w : Walk) (most : ℕ) (bytes rest after trailer tail : List ℕ) (s u : BoxSeen)
    → AllByRecursion IsByte bytes → AreKnown w.known → IsScanIn v w most bytes rest trailer s
    → IsScanIn v w most bytes after tail u → is_last s.plan ≡ true → is_last u.plan ≡ false → ⊥
plan_once v w most bytes rest after trailer tail s u all known x y last other =
    let one = one_scan_of w bytes rest after s.plan u.plan x.mcus y.mcus x.pads y.pads all known
    x.is y.is in
    false≢true (sym other ∙ ap is_last (sym one.0) ∙ last)

scans_once : (v : Version) (w : Walk) (mosts bytes trailer rest : List ℕ) (scans others : List BoxSeen)
    → AllByRecursion IsByte bytes → AreKnown w.known → AreScansIn v w mosts bytes trailer scans
    → AreScansIn v w mosts bytes rest others → scans ≡ others
scans_once v w [] bytes trailer rest [] others all known a b = absurd a
scans_once v w (most ∷ mosts) bytes trailer rest [] others all known a b = absurd a
scans_once v w [] bytes trailer rest (s ∷ scans) others all known a b = absurd a
scans_once v w (most ∷ mosts) bytes trailer rest (s ∷ []) [] all known a b = absurd b
scans_once v w (most ∷ mosts) bytes trailer rest (s ∷ t ∷ scans) [] all known a b = absurd b
scans_once v w (most ∷ mosts) bytes trailer rest (s ∷ []) (u ∷ []) all known a b =
    ap (λ (x : BoxSeen). x ∷ [])
    (seen_once v w most bytes trailer rest trailer rest s u all known (λ e. e) a.0 b.0).0
scans_once v w (most ∷ mosts) bytes trailer rest (s ∷ []) (u ∷ t' ∷ others) all known a b =
    absurd (plan_once v w most bytes trailer b.0 trailer [] s u all known a.0 b.1 a.1 b.2)
scans_once v w (most ∷ mosts) bytes trailer rest (s ∷ t ∷ scans) (u ∷ []) all known a b =
    absurd (plan_once v w most bytes rest a.0 rest [] u s all known b.0 a.1 b.1 a.2)
scans_once v w (most ∷ mosts) bytes trailer rest (s ∷ t ∷ scans) (u ∷ t' ∷ others) all known a b =
    let one = seen_once v w most bytes a.0 b.0 [] [] s u all known (λ e. refl) a.1 b.1 in
    let there = subst (λ (x : BoxSeen). AreScansIn v (next_walk x.plan.known 0) mosts a.0 rest
    (t' ∷ others)) (sym one.0)
    (subst (λ (l : List ℕ). AreScansIn v (next_walk u.plan.known 0) mosts l rest (t' ∷ others))
    (sym one.1) b.3) in
    let x = a.1 in
    let more = scans_once v (next_walk s.plan.known 0) mosts a.0 trailer rest (t ∷ scans) (t' ∷ others)
    (rest_bytes w bytes a.0 s.plan x.mcus x.pads all x.is)
    (known_on w bytes a.0 s.plan x.mcus x.pads all known x.is) a.3 there in
    ap₂ (λ (x : BoxSeen) (xs : List BoxSeen). x ∷ xs) one.0 more

pub one_container : OneContainer
one_container v mosts made other file x y =
    let scans = scans_once v opening_walk mosts file x.trailer y.trailer x.scans y.scans x.bytes
    none_known x.are y.are in
    x.spelled ∙ ap (λ (l : List BoxSeen). container_bytes v (all_parts l)) scans ∙ sym y.spelled

-- a file has one number of scans
same_count : (v u : Version) (mosts others made other file : List ℕ) → IsContainerOf v mosts made file
    → IsContainerOf u others other file → length mosts ≡ length others
same_count v u mosts others made other file x y =
    let a = as_file v opening_walk mosts file x.trailer x.scans x.are in
    let b = as_file u opening_walk others file y.trailer y.scans y.are in
    let same = one_file file x.trailer y.trailer a.scans b.scans x.bytes a.are b.are in
    let ax = a.counted in
    let bx = b.counted in
    let cx = x.counted in
    let dx = y.counted in
    omega (arith, ap length same.0, ax, bx, cx, dx)

pub one_container_of_file : OneContainerOfFile
one_container_of_file most made other file (n, x) (m, y) =
    let same = same_count (version_for n) (version_for m) (replicate n (share_of most n))
    (replicate m (share_of most m)) made other file x y in
    let count : m ≡ n =
    omega (arith, same, length-replicate n (share_of most n), length-replicate m (share_of most m)) in
    one_container (version_for n) (replicate n (share_of most n)) made other file x
    (subst (λ k. IsContainerOf (version_for k) (replicate k (share_of most k)) other file) count y)

-- ---- not refused

pub contained_is_not_refused : ContainedIsNotRefused
contained_is_not_refused v mosts made file refusal x refused =
    let a = as_file v opening_walk mosts file x.trailer x.scans x.are in
    not_refused opening_walk file x.trailer 0 a.scans refused.before refusal x.bytes none_known
    (omega arith) a.are refused.stops

-- a list of one scan
abbrev only : PlanFields → List Mcu → List Bool → List FileScan
only plan mcus pads = (record { plan = plan; mcus = mcus; pads = pads }) ∷ []

pub accepted_is_not_refused : AcceptedIsNotRefused
accepted_is_not_refused file trailer scans refusal all is refused =
    not_refused opening_walk file trailer 0 scans refused.before refusal all none_known
    (omega arith) is refused.stops

pub several_is_not_one : SeveralIsNotOne
several_is_not_one file trailer plan mcus pads all several is =
    let one = one_is_all file trailer plan mcus pads all is in
    let same = one_file file several.1 trailer several.0 (only plan mcus pads) all several.2 one in
    let two = several.3 in
    omega (arith, ap length same.0, two)
