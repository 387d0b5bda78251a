-- The container of a file of several scans stands for the file.
use Rattle.std.proofs.Common.{◌≡◌, ℕ, zero, suc, ◌+◌, ◌*◌, ◌^◌, ◌<◌, ◌≤◌, Bool, true, false, if◌then◌else◌, ◌==◌, List, [], ◌∷◌, ◌++◌, length, map, replicate, inr, refl, sym, ap, subst, ◌∙◌, arith, append_assoc, append-nil}
use Rattle.std.specs.Prelude.{sum}
use Rattle.std.specs.List.{AllByRecursion}
use Rattle.std.proofs.lemmas.List.{length-replicate}
use Rattle.std.proofs.lemmas.List.Folds.{sum_by-replicate}
use Rattle.bit_list.specs.Bits.{IsByte}
use Rattle.jpeg_marker.specs.KnownBefore.{AreKnown}
use Rattle.jpeg_marker.specs.FirstWalks.{opening_walk}
use Rattle.jpeg_marker.specs.Walks.{Walk, next_walk}
use Rattle.jpeg_marker.proofs.CodedComponents.{HaveCoded, none_coded, more_coded, few_coded}
use Rattle.jpeg_marker.proofs.HeadersTaken.{none_known}
use Rattle.scan_spec.proofs.FilesOnce.{known_on}
use Rattle.box_format.specs.Parts.{BoxSeen}
use Rattle.box_format.specs.Versions.{layout_of, most_segments}
use Rattle.box_format.specs.declared.version.Version.{Version}
use Rattle.box_format.specs.declared.version.Version.TheVariants.{Second, Fourth}
use Rattle.box_format.proofs.Lists.{sum_first}
use Rattle.box_format.specs.Containers.{AreBoxes, AreScans, segment_count}
use Rattle.container_spec.specs.ScansFiles.{AreScansIn, IsContainerOf, share_of, version_for}
use Rattle.container_spec.specs.ScansMeaningLaws.{FileIsRestored, ContainerIsRestored}
use Rattle.container_spec.proofs.JoinedScans.{EachRestored, own as joined_own}
use Rattle.container_spec.proofs.RestoredMeanings.{IsRestored}
use Rattle.container_spec.proofs.SeveralScans.{each_stands}
use Rattle.container_spec.proofs.ScanParts.{has, header, scan, bytes_are, rest_bytes, own, is_version, trailer_is, segments_are, is_box, restored}

-- bytes that are followed by others
joined_is : (header scan rest bytes : List ℕ) → bytes ≡ header ++ (scan ++ rest)
    → (header ++ (scan ++ [])) ++ rest ≡ bytes
joined_is header scan rest bytes e =
    append_assoc header (scan ++ []) rest
    ∙ ap (λ (l : List ℕ). header ++ (l ++ rest)) (append-nil scan) ∙ sym e

-- what is known of scans from a walk on
record AreRestored (v : Version) (w : Walk) (mosts bytes : List ℕ) (scans : List BoxSeen) : Type 0 where
  boxes : AreBoxes w scans
  versions : AllByRecursion (λ (s : BoxSeen). s.parts.version ≡ v) scans
  few : segment_count scans ≤ sum mosts
  each : EachRestored scans bytes

are_restored : (v : Version) (whole : (layout_of v).chunked ≡ false)
    (w : Walk) (mosts bytes trailer : List ℕ) (scans : List BoxSeen)
    → AreKnown w.known → AllByRecursion IsByte bytes → length trailer < 2 ^ 32
    → AllByRecursion (λ most. 0 < most) mosts → sum mosts ≤ (layout_of v).most
    → AreScansIn v w mosts bytes trailer scans → AreRestored v w mosts bytes scans
are_restored v whole w [] bytes trailer [] known all fits some few are = absurd are
are_restored v whole w (most ∷ mosts) bytes trailer [] known all fits some few are = absurd are
are_restored v whole w [] bytes trailer (s ∷ scans) known all fits some few are = absurd are
are_restored v whole w (most ∷ mosts) bytes trailer (s ∷ []) known all fits some few are =
    let is = are.0 in
    let sum_is = sum_first most mosts in
    let tail = rest_bytes w bytes trailer s.plan is.mcus is.pads all is.is in
    let below : most ≤ (layout_of v).most = omega (arith, few, sum_is) in
    let many = segments_are v whole w most bytes trailer trailer s known all tail fits is in
    let one = sum_first (length s.parts.handovers) [] in
    record {
      boxes = (is_box v whole w most bytes trailer trailer s known all tail fits is some.0 below, are.1);
      versions = (is_version v whole w most bytes trailer trailer s known all tail fits is, tt);
      few = omega (arith, many, sum_is, one);
      each = (
        bytes,
        [],
        subst (IsRestored s.parts (joined_own s))
            (sym (bytes_are v whole w most bytes trailer trailer s known all tail fits is))
            (restored v whole w most bytes trailer trailer s known all tail fits is some.0 below),
        refl,
        sym (append-nil bytes),
      );
    }
are_restored v whole w (most ∷ mosts) bytes trailer (s ∷ t ∷ scans) known all fits some few are =
    let rest : List ℕ = are.0 in
    let is = are.1 in
    let sum_is = sum_first most mosts in
    let below : most ≤ (layout_of v).most = omega (arith, few, sum_is) in
    let others : sum mosts ≤ (layout_of v).most = omega (arith, few, sum_is) in
    let none : length {A = ℕ} [] < 2 ^ 32 = omega arith in
    let many = segments_are v whole w most bytes rest [] s known all tt none is in
    let here = own v whole w most bytes rest [] s known all tt none is in
    let more = are_restored v whole (next_walk s.plan.known 0) mosts rest
    trailer (t ∷ scans) (known_on w bytes rest s.plan is.mcus is.pads all known is.is)
    (rest_bytes w bytes rest s.plan is.mcus is.pads all is.is) fits some.1 others are.3 in
    let text = joined_is (header v whole w most bytes rest [] s known all tt none is)
    (scan v whole w most bytes rest [] s known all tt none is) rest bytes
    (bytes_are v whole w most bytes rest [] s known all tt none is) in
    let one = sum_first (length s.parts.handovers)
    (map (λ (s : BoxSeen). length s.parts.handovers) (t ∷ scans)) in
    let fewer = more.few in
    record {
      boxes = (
        is_box v whole w most bytes rest [] s known all tt none is some.0 below,
        are.2,
        trailer_is v whole w most bytes rest [] s known all tt none is,
        more.boxes,
      );
      versions = (is_version v whole w most bytes rest [] s known all tt none is, more.versions);
      few = omega (arith, many, sum_is, one, fewer);
      each = (
        here,
        rest,
        restored v whole w most bytes rest [] s known all tt none is some.0 below,
        more.each,
        sym text,
      );
    }

-- there are four scans at most
pub scans_few : (v : Version) (whole : (layout_of v).chunked ≡ false)
    (w : Walk) (before : ℕ) (mosts bytes trailer : List ℕ) (scans : List BoxSeen)
    → AreKnown w.known → HaveCoded w.known before → AllByRecursion IsByte bytes
    → length trailer < 2 ^ 32 → AreScansIn v w mosts bytes trailer scans
    → before + length scans ≤ 4
scans_few v whole w before [] bytes trailer [] known coded all fits are = absurd are
scans_few v whole w before (most ∷ mosts) bytes trailer [] known coded all fits are = absurd are
scans_few v whole w before [] bytes trailer (s ∷ scans) known coded all fits are = absurd are
scans_few v whole w before (most ∷ mosts) bytes trailer (s ∷ []) known coded all fits are =
    let is = are.0 in
    let tail = rest_bytes w bytes trailer s.plan is.mcus is.pads all is.is in
    let few = few_coded s.plan.known (suc before) (more_coded w bytes s.plan before
    (has v whole w most bytes trailer trailer s known all tail fits is) coded) in
    omega (arith, few)
scans_few v whole w before (most ∷ mosts) bytes trailer (s ∷ t ∷ scans) known coded all fits are =
    let rest : List ℕ = are.0 in
    let is = are.1 in
    let none : length {A = ℕ} [] < 2 ^ 32 = omega arith in
    let more = scans_few v whole (next_walk s.plan.known 0) (suc before) mosts rest trailer (t ∷ scans)
    (known_on w bytes rest s.plan is.mcus is.pads all known is.is)
    (more_coded w bytes s.plan before (has v whole w most bytes rest [] s known all tt none is) coded)
    (rest_bytes w bytes rest s.plan is.mcus is.pads all is.is) fits are.3 in
    omega (arith, more)

-- they are scans of a container
pub are_scans : (v : Version) (mosts made file : List ℕ) → AllByRecursion (λ most. 0 < most) mosts
    → sum mosts ≤ (layout_of v).most → (is : IsContainerOf v mosts made file) → AreScans v is.scans
are_scans v mosts made file some few is =
    let all = are_restored v is.whole opening_walk mosts file is.trailer is.scans none_known is.bytes
    is.trailer_fits some few is.are in
    let segments = all.few in
    record {
      enough = is.enough;
      most = is.most;
      each = all.boxes;
      versions = all.versions;
      few = omega (arith, segments, few);
    }

pub file_is_restored : FileIsRestored
file_is_restored v mosts made file some few is =
    let all = are_restored v is.whole opening_walk mosts file is.trailer is.scans none_known is.bytes
    is.trailer_fits some few is.are in
    let are = are_scans v mosts made file some few is in
    inr (
      is.scans,
      (v, record { are = are; text = is.spelled }),
      sym (each_stands v is.scans file is.whole are all.each),
    )

-- ---- any file

share_few : (most n : ℕ) → n ≤ 4 → most ≤ 64 → n * share_of most n ≤ 64
share_few most zero few below = omega arith
share_few most (suc zero) few below = omega arith
share_few most (suc (suc zero)) few below = omega arith
share_few most (suc (suc (suc zero))) few below = omega arith
share_few most (suc (suc (suc (suc zero)))) few below = omega arith
share_few most (suc (suc (suc (suc (suc n))))) few below = absurd (omega arith)

replicated : (n x : ℕ) → 0 < x → AllByRecursion (λ most. 0 < most) (replicate n x)
replicated zero x some = tt
replicated (suc n) x some = (some, replicated n x some)

-- the numbers of segments of a file's scans, which share them
pub record AreShares (n share : ℕ) (scans : List BoxSeen) : Type 0 where
  pub some : AllByRecursion (λ most. 0 < most) (replicate n share)
  pub few : sum (replicate n share) ≤ most_segments
  pub count : length scans ≤ 4

pub shares_are : (v : Version) (most n : ℕ) (made file : List ℕ) → most ≤ most_segments
    → (is : IsContainerOf v (replicate n (share_of most n)) made file)
    → AreShares n (share_of most n) is.scans
shares_are v most n made file few is =
    let share : ℕ = share_of most n in
    let count = scans_few v is.whole opening_walk 0 (replicate n share) file is.trailer is.scans
    none_known none_coded is.bytes is.trailer_fits is.are in
    let long = length-replicate n share in
    let counted = is.counted in
    let all = sum_by-replicate (λ (x : ℕ). x) n share in
    let below = share_few most n (omega (arith, count, long, counted)) few in
    record {
      some = replicated n share (omega arith);
      few = omega (arith, all, below);
      count = omega (arith, count);
    }

-- a version of any number of scans has room for as many segments
pub for_most : (n : ℕ) → (layout_of (version_for n)).most ≡ most_segments
for_most n = by_test (n == 1) where
  by_test : (b : Bool) → (layout_of (if b then Second else Fourth)).most ≡ most_segments
  by_test true = refl
  by_test false = refl

pub container_is_restored : ContainerIsRestored
container_is_restored most made file few (n, is) =
    let shares = shares_are (version_for n) most n made file few is in
    let all = shares.few in
    let room = for_most n in
    file_is_restored (version_for n) (replicate n (share_of most n)) made file shares.some
    (omega (arith, all, room)) is
