-- A file whose headers are found and whose last scan is read has several scans.
use Rattle.std.proofs.Common.{◌≡◌, ℕ, zero, suc, ◌+◌, ◌≤◌, false, List, [], ◌∷◌, length, drop, refl, sym, ap, ◌∙◌, subst, arith, Some}
use Rattle.std.specs.Prelude.{slice_get}
use Rattle.std.specs.List.{AllByRecursion}
use Rattle.bit_list.specs.Bits.{IsByte}
use Rattle.jpeg_marker.specs.AcceptedPlans.{CanScan}
use Rattle.jpeg_marker.specs.FirstWalks.{opening_walk}
use Rattle.jpeg_marker.specs.Walks.{Walk, next_walk}
use Rattle.jpeg_marker.proofs.MovedHeaders.{at_place}
use Rattle.scan_spec.specs.FileParts.{AreScans, FileScan, IsScanOf, is_last}
use Rattle.scan_spec.specs.Items.{Refuses as ItemsRefuse}
use Rattle.scan_spec.specs.Slots.{shape_of}
use Rattle.scan_spec.specs.declared.refusal.ScanRefusal.{ScanRefusal}
use Rattle.segment_code.specs.FileStarts.{StartsFields}
use Rattle.segment_code.specs.Starting.{AreStarts}
use Rattle.container_spec.specs.ScansFiles.{FileIsRefused, HasSeveralScans, Scan}
use Rattle.lepton_encode.specs.FileHeads.{AreHeads, EndsAt, IsHead, walk_after}
use Rattle.lepton_encode.specs.declared.heads.Head.{Head}
use Rattle.lepton_encode.proofs.HeadsFound.{AreLeft, IsLeft, all_left, can, ends_at, file_scan, head_of, header_at, known_is, last_is, left_next, left_refused, scan_of}

-- ---- the last header

last_left : (file : List ℕ) (heads : List Head) (j : ℕ) (h : Head) → AllByRecursion IsByte file
    → AreLeft file heads → slice_get heads j ≡ Some h → j + 1 ≡ length heads → IsLeft file h []
last_left file [] j h all left e last = cc
last_left file (x ∷ []) zero h all left e last =
    let same : x ≡ h = cc in subst (λ (y : Head). IsLeft file y []) same left
last_left file (x ∷ []) (suc j) h all left e last = cc
last_left file (x ∷ g ∷ rest) zero h all left e last = absurd (omega (arith, last))
last_left file (x ∷ g ∷ rest) (suc j) h all left e last =
    last_left file (g ∷ rest) j h all (left_next file x (g ∷ rest) all left) e (omega (arith, last))

-- a scan is known to end after it
abbrev EndsLast : List ℕ → List Head → Type 0
EndsLast file [] = ⊥
EndsLast file (h ∷ []) = (after : ℕ) × EndsAt file h after
EndsLast file (h ∷ g ∷ rest) = EndsLast file (g ∷ rest)

ends_last : (file : List ℕ) (heads : List Head) (j after : ℕ) (h : Head)
    → slice_get heads j ≡ Some h → j + 1 ≡ length heads → EndsAt file h after → EndsLast file heads
ends_last file [] j after h e last ends = cc
ends_last file (x ∷ []) zero after h e last ends =
    let same : h ≡ x = cc in (after, subst (λ (y : Head). EndsAt file y after) same ends)
ends_last file (x ∷ []) (suc j) after h e last ends = cc
ends_last file (x ∷ g ∷ rest) zero after h e last ends = absurd (omega (arith, last))
ends_last file (x ∷ g ∷ rest) (suc j) after h e last ends =
    ends_last file (g ∷ rest) j after h e (omega (arith, last)) ends

-- ---- all scans

record AreRead (w : Walk) (file : List ℕ) (count : ℕ) : Type 0 where
  scans : List FileScan
  trailer : List ℕ
  are : AreScans (at_place w 0) (drop w.place file) scans trailer
  counted : length scans ≡ count

-- a scan, wherever its header is
own : (w : Walk) (file : List ℕ) (h : Head) (all : AllByRecursion IsByte file) (is : IsHead w file h)
    (after : ℕ) (ends : EndsAt file h after)
    → IsScanOf (at_place w 0) (drop w.place file) is.plan ends.mcus ends.pads (drop after file)
own w file h all is after ends =
    let there = scan_of w file h all is after ends in
    record {
      header = header_at w file h all is;
      scan = there.scan;
      is = there.is;
      text = there.text;
    }

before_others : (w : Walk) (from rest trailer : List ℕ) (s : FileScan) (scans : List FileScan)
    → IsScanOf w from s.plan s.mcus s.pads rest → is_last s.plan ≡ false
    → AreScans (next_walk s.plan.known 0) rest scans trailer → AreScans w from (s ∷ scans) trailer
before_others w from rest trailer s [] is more are = absurd are
before_others w from rest trailer s (t ∷ scans) is more are = (rest, is, more, are)

are_read : (w : Walk) (file : List ℕ) (heads : List Head) → AllByRecursion IsByte file
    → AreHeads w file heads → EndsLast file heads → AreRead w file (length heads)
are_read w file [] all are last = absurd are
are_read w file (h ∷ []) all are last = record {
  scans = file_scan w file h all are.0 last.0 last.1 ∷ [];
  trailer = drop last.0 file;
  are = (own w file h all are.0 last.0 last.1, sym (last_is w file h all are.0) ∙ are.1);
  counted = refl;
}
are_read w file (h ∷ g ∷ rest) all are last =
    let is = are.0 in
    let after = are.2 in
    let more = are_read (walk_after h after) file (g ∷ rest) all are.4 last in
    let s : FileScan = file_scan w file h all is after are.3 in
    record {
      scans = s ∷ more.scans;
      trailer = more.trailer;
      are = before_others (at_place w 0) (drop w.place file) (drop after file) more.trailer s
          more.scans (own w file h all is after are.3) (sym (last_is w file h all is) ∙ are.1)
          (subst (λ k. AreScans (next_walk k 0) (drop after file) more.scans more.trailer)
          (known_is w file h all is) more.are);
      counted = ap suc more.counted;
    }

module _ (file : List ℕ) (heads : List Head) (j : ℕ) (h : Head) (all : AllByRecursion IsByte file)
    (are : AreHeads opening_walk file heads) (here : slice_get heads j ≡ Some h)
    (last : j + 1 ≡ length heads) where
  left : IsLeft file h []
  left = last_left file heads j h all (all_left file heads are) here last

  -- the last scan can be read
  pub last_can : CanScan file h.plan
  last_can = can left.walk file h all (head_of left.walk file h [] left.are)

  -- if it is refused, so is the file
  pub last_refused : (refusal : ScanRefusal)
      → ItemsRefuse (shape_of h.plan) file h.plan.header_length refusal
      → FileIsRefused file (Scan refusal)
  last_refused refusal refuses = left_refused file h [] refusal all left refuses

  -- and if it isn't, the file has as many scans as headers
  pub several_read : (starts : StartsFields) → AreStarts h.plan file 1 starts → 2 ≤ length heads
      → HasSeveralScans file
  several_read starts have two =
      let ends = ends_at left.walk file h all (head_of left.walk file h [] left.are) 1 starts have in
      let read = are_read opening_walk file heads all are
      (ends_last file heads j starts.trailer h here last ends) in
      let counted = read.counted in
      (read.scans, read.trailer, read.are, omega (arith, counted, two))
