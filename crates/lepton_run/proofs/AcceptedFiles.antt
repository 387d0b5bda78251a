-- Each file that is accepted has a container.
use Rattle.std.proofs.Common.{◌≡◌, ℕ, ◌<◌, ◌≤◌, ◌^◌, ◌==◌, Bool, true, false, if◌then◌else◌, inl, inr, List, [], ◌∷◌, ◌++◌, length, take, drop, replicate, refl, sym, ap, ◌∙◌, arith, length-append, length-drop}
use Rattle.std.specs.List.{AllByRecursion}
use Rattle.std.proofs.lemmas.List.{length-replicate}
use Rattle.bit_list.specs.Bits.{IsByte}
use Rattle.jpeg_marker.specs.KnownBefore.{AreKnown}
use Rattle.jpeg_marker.specs.FirstWalks.{opening_walk}
use Rattle.jpeg_marker.specs.Walks.{Walk, next_walk}
use Rattle.jpeg_marker.proofs.HeadersTaken.{begun_has_plan, none_known}
use Rattle.jpeg_marker.proofs.CodedComponents.{none_coded}
use Rattle.std.proofs.lemmas.Bool.{cases_lt, eqb-true, false≢true}
use Rattle.scan_spec.specs.FileParts.{AreScans, FileScan, IsFile, IsScanOf, is_last}
use Rattle.scan_spec.specs.Slots.{shape_of}
use Rattle.scan_spec.proofs.FilesOnce.{known_on}
use Rattle.box_format.specs.Parts.{BoxSeen, can_pad}
use Rattle.box_format.specs.Versions.{layout_of, fewest_scans, most_scans}
use Rattle.box_format.specs.declared.version.Version.{Version}
use Rattle.box_format.specs.declared.version.Version.TheVariants.{Second, Fourth}
use Rattle.container_spec.specs.ScansFiles.{IsContainerOf, AreScansIn, IsContainerOfFile, IsScanIn, share_of, version_for}
use Rattle.container_spec.specs.Files.{parts_of_file, told_pads}
use Rattle.container_spec.specs.Limits.{most_of_a_file}
use Rattle.container_spec.proofs.PadsTold.{second_can_pad}
use Rattle.box_format.specs.Containers.{all_parts, container_bytes}
use Rattle.container_spec.proofs.ScanParts.{rest_bytes}
use Rattle.container_spec.proofs.ScansRestored.{scans_few}

-- what follows a scan is no longer than the bytes
rest_within : (bytes scan rest : List ℕ) (n : ℕ) → drop n bytes ≡ scan ++ rest
    → length rest ≤ length bytes
rest_within bytes scan rest n text =
    omega (arith, ap length text, length-drop n bytes, length-append scan rest)

-- ---- a scan of a container

abbrev box_of : Version → ℕ → List ℕ → List ℕ → FileScan → BoxSeen
box_of v most bytes trailer s = record {
  plan = s.plan;
  parts = parts_of_file v s.plan s.mcus s.pads (take s.plan.header_length bytes) trailer most;
}

box_in : (v : Version) → (layout_of v).listed ≡ true → (w : Walk) (most : ℕ) (bytes rest trailer : List ℕ) (s : FileScan)
    → AllByRecursion IsByte bytes → AreKnown w.known → length bytes < 2 ^ 32
    → IsScanOf w bytes s.plan s.mcus s.pads rest
    → IsScanIn v w most bytes rest trailer (box_of v most bytes trailer s)
box_in v listed w most bytes rest trailer s all known short is =
    let within = (begun_has_plan w bytes s.plan all known is.header).within in
    record {
      mcus = s.mcus;
      pads = s.pads;
      is = is;
      header_fits = omega (arith, within, short);
      can = ap (λ l. can_pad l (shape_of s.plan) (told_pads s.plan s.mcus s.pads)) listed
          ∙ second_can_pad w bytes rest s.plan s.mcus s.pads all known is;
      parts = refl;
    }

-- ---- all of them

record HaveBoxes (v : Version) (w : Walk) (most : ℕ) (bytes trailer : List ℕ) (count : ℕ) : Type 0 where
  boxes : List BoxSeen
  are : AreScansIn v w (replicate count most) bytes trailer boxes
  counted : length boxes ≡ count
  fits : length trailer ≤ length bytes

before_others : (v : Version) (w : Walk) (most : ℕ) (mosts bytes rest trailer : List ℕ) (s : BoxSeen)
    (boxes : List BoxSeen) → IsScanIn v w most bytes rest [] s → is_last s.plan ≡ false
    → AreScansIn v (next_walk s.plan.known 0) mosts rest trailer boxes
    → AreScansIn v w (most ∷ mosts) bytes trailer (s ∷ boxes)
before_others v w most [] bytes rest trailer s [] is more are = absurd are
before_others v w most (m ∷ mosts) bytes rest trailer s [] is more are = absurd are
before_others v w most mosts bytes rest trailer s (t ∷ boxes) is more are = (rest, is, more, are)

have_boxes : (v : Version) → (layout_of v).listed ≡ true → (w : Walk) (most : ℕ) (bytes trailer : List ℕ) (scans : List FileScan)
    → AllByRecursion IsByte bytes → AreKnown w.known → length bytes < 2 ^ 32
    → AreScans w bytes scans trailer → HaveBoxes v w most bytes trailer (length scans)
have_boxes v listed w most bytes trailer [] all known short are = absurd are
have_boxes v listed w most bytes trailer (s ∷ []) all known short are =
    let is = are.0 in
    record {
      boxes = box_of v most bytes trailer s ∷ [];
      are = (box_in v listed w most bytes trailer trailer s all known short is, are.1);
      counted = refl;
      fits = rest_within bytes is.scan trailer s.plan.header_length is.text;
    }
have_boxes v listed w most bytes trailer (s ∷ t ∷ scans) all known short are =
    let rest = are.0 in
    let is = are.1 in
    let fewer = rest_within bytes is.scan rest s.plan.header_length is.text in
    let more = have_boxes v listed (next_walk s.plan.known 0) most rest trailer (t ∷ scans)
    (rest_bytes w bytes rest s.plan s.mcus s.pads all is)
    (known_on w bytes rest s.plan s.mcus s.pads all known is) (omega (arith, fewer, short)) are.3 in
    let counted = more.counted in
    let fits = more.fits in
    record {
      boxes = box_of v most bytes [] s ∷ more.boxes;
      are = before_others v w most (replicate (length (t ∷ scans)) most) bytes rest trailer
          (box_of v most bytes [] s) more.boxes (box_in v listed w most bytes rest [] s all known short is) are.2
          more.are;
      counted = omega (arith, counted);
      fits = omega (arith, fits, fewer);
    }

-- ---- the container

-- a version that has room for so many scans, and can say all pad bits
record HasRoom (v : Version) (n : ℕ) : Type 0 where
  whole : (layout_of v).chunked ≡ false
  listed : (layout_of v).listed ≡ true
  enough : fewest_scans (layout_of v) ≤ n
  most : n ≤ 4 → n ≤ most_scans (layout_of v)

room_for : (n : ℕ) → 1 ≤ n → HasRoom (version_for n) n
room_for n some = by_count (n == 1) refl where
  by_count : (b : Bool) → (n == 1) ≡ b → HasRoom (if b then Second else Fourth) n
  by_count true e =
      let one = eqb-true n 1 e in
      record { whole = refl; listed = refl; enough = some; most = λ few. omega (arith, one) }
  by_count false e = record {
    whole = refl;
    listed = refl;
    enough = elim (cases_lt n 2) [
      | inl below ↦
          let one : n ≡ 1 = omega (arith, some, below) in
          absurd (false≢true (sym e ∙ ap (λ (k : ℕ). k == 1) one))
      | inr two ↦ two
    ];
    most = λ few. few;
  }

contained : (v : Version) (share : ℕ) (file trailer : List ℕ) (count : ℕ) → HasRoom v count
    → AllByRecursion IsByte file → length file < 2 ^ 32
    → (have : HaveBoxes v opening_walk share file trailer count)
    → IsContainerOf v (replicate count share) (container_bytes v (all_parts have.boxes)) file
contained v share file trailer count room all short have =
    let counted = have.counted in
    let fits = have.fits in
    let enough = room.enough in
    let many = scans_few v room.whole opening_walk 0 (replicate count share) file trailer have.boxes
    none_known none_coded all (omega (arith, fits, short)) have.are in
    let most = room.most (omega (arith, many, counted)) in
    record {
      whole = room.whole;
      bytes = all;
      scans = have.boxes;
      trailer = trailer;
      enough = omega (arith, counted, enough);
      most = omega (arith, counted, most);
      counted = omega (arith, counted, length-replicate count share);
      are = have.are;
      trailer_fits = omega (arith, fits, short);
      spelled = refl;
    }

some_scans : (w : Walk) (file : List ℕ) (scans : List FileScan) (trailer : List ℕ)
    → AreScans w file scans trailer → 1 ≤ length scans
some_scans w file [] trailer are = absurd are
some_scans w file (s ∷ scans) trailer are = omega arith

pub accepted_has_container : (most : ℕ) (file : List ℕ) (scans : List FileScan) (trailer : List ℕ)
    → AllByRecursion IsByte file → IsFile file scans trailer → length file ≤ most_of_a_file
    → (made : List ℕ) × IsContainerOfFile most made file
accepted_has_container most file scans trailer all are short =
    let few : length file < 2 ^ 32 = omega (arith, short) in
    let count : ℕ = length scans in
    let room = room_for count (some_scans opening_walk file scans trailer are) in
    let have = have_boxes (version_for count) room.listed opening_walk (share_of most count) file trailer
    scans all none_known few are in (
      container_bytes (version_for count) (all_parts have.boxes),
      (
        count,
        contained (version_for count) (share_of most count) file trailer count room all few have,
      ),
    )
