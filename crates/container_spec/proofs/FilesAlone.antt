-- The container of a file of one scan is that of its scan alone.
use Rattle.std.proofs.Common.{◌<◌, ◌^◌, ◌≡◌, ◌≤◌, ℕ, Bool, true, false, List, [], ◌∷◌, length, take, refl, ap, ◌∙◌, arith}
use Rattle.std.specs.List.{AllByRecursion}
use Rattle.bit_list.specs.Bits.{IsByte}
use Rattle.jpeg_marker.specs.Plans.{PlanFields}
use Rattle.jpeg_marker.specs.FirstWalks.{opening_walk, only_walk}
use Rattle.jpeg_marker.proofs.OneScans.{one_is_several, one_is_last, several_is_one}
use Rattle.jpeg_marker.proofs.HeadersTaken.{none_known}
use Rattle.scan_spec.specs.FileParts.{IsScanOf, is_last}
use Rattle.scan_spec.specs.Scans.{Mcu}
use Rattle.box_format.specs.Versions.{layout_of}
use Rattle.box_format.specs.Parts.{BoxParts, BoxSeen}
use Rattle.box_format.specs.Containers.{container_bytes, all_parts}
use Rattle.box_format.specs.declared.version.Version.{Version}
use Rattle.container_spec.specs.Files.{parts_of_file}
use Rattle.container_spec.proofs.ScanContainers.{IsContainerOfOne}
use Rattle.container_spec.specs.ScansFiles.{AreScansIn, IsContainerOf}
use Rattle.box_format.proofs.Singles.{fewest_one}

opened : (file : List ℕ) (plan : PlanFields) (mcus : List Mcu) (pads : List Bool)
    (trailer : List ℕ) → IsScanOf only_walk file plan mcus pads trailer
    → IsScanOf opening_walk file plan mcus pads trailer
opened file plan mcus pads trailer is = record {
  header = one_is_several file plan is.header;
  scan = is.scan;
  is = is.is;
  text = is.text;
}

pub as_one : (version : Version) (most : ℕ) (made file : List ℕ) → (layout_of version).several ≡ false
    → IsContainerOfOne version most made file → IsContainerOf version (most ∷ []) made file
as_one version most made file one is =
    let parts = parts_of_file version is.plan is.mcus is.pads (take is.plan.header_length file)
    is.trailer most in
    let s : BoxSeen = record { plan = is.plan; parts = parts } in
    let room = fewest_one version one in
    record {
      whole = is.whole;
      bytes = is.bytes;
      scans = s ∷ [];
      trailer = is.trailer;
      enough = room.0;
      most = room.1;
      counted = refl;
      are = (
        record {
          mcus = is.mcus;
          pads = is.pads;
          is = opened file is.plan is.mcus is.pads is.trailer is.is;
          header_fits = is.header_fits;
          can = is.can;
          parts = refl;
        },
        one_is_last file is.plan is.bytes is.is.header,
      );
      trailer_fits = is.trailer_fits;
      spelled = is.spelled;
    }

-- ---- and back

closed : (file : List ℕ) (plan : PlanFields) (mcus : List Mcu) (pads : List Bool)
    (trailer : List ℕ) → AllByRecursion IsByte file → is_last plan ≡ true
    → IsScanOf opening_walk file plan mcus pads trailer
    → IsScanOf only_walk file plan mcus pads trailer
closed file plan mcus pads trailer are last is = record {
  header = several_is_one file plan are is.header last;
  scan = is.scan;
  is = is.is;
  text = is.text;
}

only_one : (version : Version) (most : ℕ) (made file trailer : List ℕ) (scans : List BoxSeen)
    → (layout_of version).several ≡ false → (layout_of version).chunked ≡ false
    → AllByRecursion IsByte file → length scans ≤ 1 → length trailer < 2 ^ 32
    → AreScansIn version opening_walk (most ∷ []) file trailer scans
    → made ≡ container_bytes version (all_parts scans) → IsContainerOfOne version most made file
only_one version most made file trailer [] one whole are few fits is spelled = absurd is
only_one version most made file trailer (s ∷ t ∷ scans) one whole are few fits is spelled =
    absurd (omega (arith, few))
only_one version most made file trailer (s ∷ []) one whole are few fits is spelled =
    record {
      known = none_known;
      whole = whole;
      bytes = are;
      plan = s.plan;
      mcus = is.0.mcus;
      pads = is.0.pads;
      trailer = trailer;
      is = closed file s.plan is.0.mcus is.0.pads trailer are is.1 is.0.is;
      header_fits = is.0.header_fits;
      trailer_fits = fits;
      can = is.0.can;
      spelled = spelled ∙ ap (λ (p : BoxParts). container_bytes version (p ∷ [])) is.0.parts;
    }

pub of_one : (version : Version) (most : ℕ) (made file : List ℕ) → (layout_of version).several ≡ false
    → IsContainerOf version (most ∷ []) made file → IsContainerOfOne version most made file
of_one version most made file one is =
    let room = fewest_one version one in
    let most_is = is.most in
    let few = room.2 in
    only_one version most made file is.trailer is.scans one is.whole is.bytes
    (omega (arith, most_is, few)) is.trailer_fits is.are is.spelled
