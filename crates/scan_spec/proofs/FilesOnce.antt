-- A file has one list of scans and one trailer.
use Rattle.std.proofs.Common.{◌≡◌, ℕ, Bool, true, false, List, [], ◌∷◌, ◌++◌, length, drop, refl, sym, ap, ◌∙◌, subst}
use Rattle.std.specs.List.{AllByRecursion}
use Rattle.std.proofs.lemmas.Bool.{false≢true}
use Rattle.std.proofs.lemmas.List.{drop_at}
use Rattle.bit_list.specs.Bits.{IsByte}
use Rattle.jpeg_marker.specs.KnownBefore.{AreKnown}
use Rattle.jpeg_marker.specs.Plans.{PlanFields}
use Rattle.jpeg_marker.specs.Walks.{Walk, next_walk}
use Rattle.jpeg_marker.specs.FirstWalks.{opening_walk}
use Rattle.jpeg_marker.proofs.HeaderLaws.{one_begins}
use Rattle.jpeg_marker.proofs.HeadersTaken.{begun_has_plan, bytes_from, next_known, none_known}
use Rattle.jpeg_marker.proofs.OneScans.{one_is_several, one_is_last}
use Rattle.scan_spec.specs.Slots.{shape_of}
use Rattle.scan_spec.specs.Scans.{Mcu, IsScan}
use Rattle.scan_spec.specs.FileLaws.{OneScanOf, OneFile, OneIsAll}
use Rattle.scan_spec.specs.FileParts.{FileScan, IsScanOf, AreScans, is_last}
use Rattle.scan_spec.proofs.ScanTaken.{one_scan}
use Rattle.scan_spec.proofs.PlanShapes.{begun_is_shape}

pub one_scan_of : OneScanOf
one_scan_of w bytes after rest plan other mcus others pads bits all known a b =
    let same = one_begins w bytes plan other a.header b.header in
    let shape = (begun_is_shape w bytes plan all known a.header).0 in
    let scan = subst (λ (p : PlanFields). IsScan (shape_of p) others bits b.scan) (sym same) b.is in
    let text : a.scan ++ after ≡ b.scan ++ rest = sym a.text ∙ ap (λ (p : PlanFields). drop p.header_length bytes) same ∙ b.text in
    let one = one_scan (shape_of plan) mcus others pads bits a.scan b.scan after rest shape a.is scan text in
    (same, one.0, one.1, one.3)

-- what follows a scan
rest_is : (w : Walk) (bytes rest : List ℕ) (plan : PlanFields) (mcus : List Mcu) (pads : List Bool) → AllByRecursion IsByte bytes → IsScanOf w bytes plan mcus pads rest → AllByRecursion IsByte rest
rest_is w bytes rest plan mcus pads all is =
    subst (AllByRecursion IsByte) (ap (drop (length is.scan)) is.text ∙ drop_at is.scan rest (length is.scan) refl) (bytes_from (length is.scan) (drop plan.header_length bytes) (bytes_from plan.header_length bytes all))

-- what is known after a scan
pub known_on : (w : Walk) (bytes rest : List ℕ) (plan : PlanFields) (mcus : List Mcu) (pads : List Bool) → AllByRecursion IsByte bytes → AreKnown w.known → IsScanOf w bytes plan mcus pads rest → AreKnown plan.known
known_on w bytes rest plan mcus pads all known is = next_known plan.known (begun_has_plan w bytes plan all known is.header).known

last_once : (a b : PlanFields) → a ≡ b → is_last a ≡ true → is_last b ≡ false → ⊥
last_once a b same last other = false≢true (sym other ∙ ap is_last (sym same) ∙ last)

scan_same : (s t : FileScan) → s.plan ≡ t.plan → s.mcus ≡ t.mcus → s.pads ≡ t.pads → s ≡ t
scan_same s t a b c = rw (a, b, c) refl

pub one_list : (w : Walk) (bytes trailer rest : List ℕ) (scans others : List FileScan) → AllByRecursion IsByte bytes → AreKnown w.known → AreScans w bytes scans trailer → AreScans w bytes others rest → (scans ≡ others) × (trailer ≡ rest)
one_list w bytes trailer rest [] others all known a b = absurd a
one_list w bytes trailer rest (s ∷ scans) [] all known a b = absurd b
one_list w bytes trailer rest (s ∷ []) (u ∷ []) all known a b =
    let one = one_scan_of w bytes trailer rest s.plan u.plan s.mcus u.mcus s.pads u.pads all known a.0 b.0 in
    (ap (λ (x : FileScan). x ∷ []) (scan_same s u one.0 one.1 one.2), one.3)
one_list w bytes trailer rest (s ∷ []) (u ∷ v ∷ others) all known a b =
    let one = one_scan_of w bytes trailer b.0 s.plan u.plan s.mcus u.mcus s.pads u.pads all known a.0 b.1 in
    absurd (last_once s.plan u.plan one.0 a.1 b.2)
one_list w bytes trailer rest (s ∷ t ∷ scans) (u ∷ []) all known a b =
    let one = one_scan_of w bytes rest a.0 u.plan s.plan u.mcus s.mcus u.pads s.pads all known b.0 a.1 in
    absurd (last_once u.plan s.plan one.0 b.1 a.2)
one_list w bytes trailer rest (s ∷ t ∷ scans) (u ∷ v ∷ others) all known a b =
    let one = one_scan_of w bytes a.0 b.0 s.plan u.plan s.mcus u.mcus s.pads u.pads all known a.1 b.1 in
    let there = subst (λ (l : List ℕ). AreScans (next_walk s.plan.known 0) l (v ∷ others) rest) (sym one.3) (subst (λ (p : PlanFields). AreScans (next_walk p.known 0) b.0 (v ∷ others) rest) (sym one.0) b.3) in
    let more = one_list (next_walk s.plan.known 0) a.0 trailer rest (t ∷ scans) (v ∷ others) (rest_is w bytes a.0 s.plan s.mcus s.pads all a.1) (known_on w bytes a.0 s.plan s.mcus s.pads all known a.1) a.3 there in
    (rw (scan_same s u one.0 one.1 one.2, more.0) refl, more.1)

pub one_file : OneFile
one_file bytes trailer rest scans others all a b = one_list opening_walk bytes trailer rest scans others all none_known a b

pub one_is_all : OneIsAll
one_is_all bytes trailer plan mcus pads all is =
    (record { header = one_is_several bytes plan is.header; scan = is.scan; is = is.is; text = is.text }, one_is_last bytes plan all is.header)
