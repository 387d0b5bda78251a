-- Each scan of a container has a segment, and without chunks they stand for a file exactly if each of them is restored.
use Rattle.std.proofs.Common.{◌≡◌, ◌<◌, ◌≤◌, ℕ, Bool, true, false, if◌then◌else◌, List, [], ◌∷◌, length, map, ap, subst, ◌∙◌, arith, Option, None, refl}
use Rattle.std.specs.List.{AllByRecursion}
use Rattle.jpeg_marker.specs.FirstWalks.{opening_walk}
use Rattle.jpeg_marker.specs.Walks.{Walk, next_walk}
use Rattle.jpeg_marker.proofs.HeadersTaken.{begun_has_plan}
use Rattle.box_format.specs.Parts.{IsBoxIn, IsCut, box_cut, BoxSeen}
use Rattle.box_format.specs.Versions.{layout_of}
use Rattle.box_format.specs.declared.chunk.Chunk.{Chunk}
use Rattle.box_format.specs.declared.version.Version.{Version}
use Rattle.box_format.specs.Containers.{AreBoxes, AreScans}
use Rattle.container_spec.specs.Portions.{played, scans_meaning, whole}
use Rattle.container_spec.proofs.JoinedScans.{AreBare, EachRestored, HaveSegments, each_joined, file_means, joined_each, means_file}
use Rattle.container_spec.proofs.PortionsMeant.{whole_meaning}
use Rattle.container_spec.proofs.RestoredMeanings.{restored}
use Rattle.box_format.proofs.SingleBytes.{none_of}

no_chunk : (v : Version) (whole : (layout_of v).chunked ≡ false) (w : Walk) (s : BoxSeen)
    → IsBoxIn w s.plan s.parts → s.parts.version ≡ v → s.parts.chunk ≡ None
no_chunk v whole w s is said =
    none_of s.parts.chunk (is.chunked ∙ ap (λ (u : Version). (layout_of u).chunked) said ∙ whole)

-- a scan has rows, and so a segment
has_segment : (w : Walk) (s : BoxSeen) → IsBoxIn w s.plan s.parts → s.parts.chunk ≡ None
    → 0 < length s.parts.handovers
has_segment w s is none =
    let plan_is =
    (begun_has_plan w s.parts.header s.plan is.header_bytes is.known is.header).is_plan in
    let high = plan_is.high in
    let some = subst (λ (c : Option Chunk). IsCut (box_cut s.plan c (length s.parts.handovers))) none
    is.cut in
    some.some high

-- what is known of each of several
pub record HaveEach (scans : List BoxSeen) : Type 0 where
  pub whole : AllByRecursion (λ (s : BoxSeen). s.parts.chunk ≡ None) scans
  pub segments : HaveSegments scans
  pub bare : AreBare scans

pub have_each : (v : Version) (whole : (layout_of v).chunked ≡ false) (w : Walk) (scans : List BoxSeen) → AreBoxes w scans
    → AllByRecursion (λ (s : BoxSeen). s.parts.version ≡ v) scans → HaveEach scans
have_each v whole w [] boxes versions = absurd boxes
have_each v whole w (s ∷ []) boxes versions =
    let none = no_chunk v whole w s boxes.0 versions.0 in
    record { whole = (none, tt); segments = (has_segment w s boxes.0 none, tt); bare = (tt, tt) }
have_each v whole w (s ∷ t ∷ scans) boxes versions =
    let none = no_chunk v whole w s boxes.0 versions.0 in
    let more = have_each v whole (next_walk s.plan.known 0) (t ∷ scans) boxes.3 versions.1 in
    record {
      whole = (none, more.whole);
      segments = (has_segment w s boxes.0 none, more.segments);
      bare = (boxes.2, more.bare);
    }

-- the numbers of their segments
counts : (scans : List BoxSeen) → HaveSegments scans
    → AllByRecursion (λ some. 0 < some) (map (λ (s : BoxSeen). length s.parts.handovers) scans)
counts [] all = tt
counts (s ∷ scans) all = (all.0, counts scans all.1)

pub each_some : (v : Version) (whole : (layout_of v).chunked ≡ false) (w : Walk) (scans : List BoxSeen) → AreBoxes w scans
    → AllByRecursion (λ (s : BoxSeen). s.parts.version ≡ v) scans
    → AllByRecursion (λ some. 0 < some) (map (λ (s : BoxSeen). length s.parts.handovers) scans)
each_some v whole w scans boxes versions = counts scans (have_each v whole w scans boxes versions).segments

few_scans : (b : Bool) (n : ℕ) → n ≤ (if b then 4 else 1) → n ≤ 4
few_scans true n few = few
few_scans false n few = omega (arith, few)

-- scans of a container that are a whole file stand for it exactly if each of them is restored
pub each_stands : (v : Version) (scans : List BoxSeen) (file : List ℕ)
    → (layout_of v).chunked ≡ false → AreScans v scans → EachRestored scans file
    → scans_meaning scans ≡ restored file
each_stands v scans file unchunked are each =
    let have = have_each v unchunked opening_walk scans are.each are.versions in
    let few = few_scans (layout_of v).several (length scans) are.most in
    whole_meaning scans have.whole
    ∙ file_means scans (played scans (whole scans)) file
    (each_joined false 0 0 scans file (omega (arith, few)) have.segments have.bare each)

pub stands_each : (v : Version) (scans : List BoxSeen) (file : List ℕ)
    → (layout_of v).chunked ≡ false → AreScans v scans → restored file ≡ scans_meaning scans
    → EachRestored scans file
stands_each v scans file unchunked are e =
    let have = have_each v unchunked opening_walk scans are.each are.versions in
    let few = few_scans (layout_of v).several (length scans) are.most in
    let all = played scans (whole scans) in
    joined_each false 0 0 scans file (omega (arith, few)) have.segments have.bare
    (means_file scans all all.fault file refl (e ∙ whole_meaning scans have.whole))
