-- Law: what holds of all containers and files of one scan or of several (own).
use Rattle.std.specs.Prelude.{ℕ, ◌≡◌, ◌<◌, ◌≤◌, Bool, false, List, length, map, sum}
use Rattle.std.specs.List.{AllByRecursion}
use Rattle.bit_list.specs.Bits.{IsByte}
use Rattle.jpeg_marker.specs.Plans.{PlanFields}
use Rattle.scan_spec.specs.FileParts.{FileScan, IsFile, IsFileOf}
use Rattle.scan_spec.specs.Scans.{Mcu}
use Rattle.box_format.specs.Parts.{BoxSeen}
use Rattle.box_format.specs.Versions.{layout_of, most_segments, version_in}
use Rattle.box_format.specs.declared.version.Version.{Version}
use Rattle.box_format.specs.declared.refusal.BoxRefusal.{BoxRefusal}
use Rattle.container_spec.specs.Limits.{most_of_a_container, most_of_a_file}
use Rattle.container_spec.specs.Meanings.{Meaning, Restored}
use Rattle.box_format.specs.Containers.{IsContainer}
use Rattle.box_format.specs.Checks.{IsRefused}
use Rattle.container_spec.specs.Portions.{StandsFor}
use Rattle.container_spec.specs.ScansFiles.{FileRefusal, FileIsRefused, HasSeveralScans, IsContainerOfFile, IsContainerOf}

-- bytes that have scans as a container aren't refused
abbrev pub RefusedIsNone : Type 0
RefusedIsNone =
    (scans : List BoxSeen) (bytes : List ℕ) (refusal : BoxRefusal)
    → IsContainer scans bytes → IsRefused bytes refusal → ⊥

-- bytes stand for one thing as a container
abbrev pub StandsForOne : Type 0
StandsForOne =
    (bytes : List ℕ) (a b : Meaning) → StandsFor bytes a → StandsFor bytes b → a ≡ b

-- a file's container stands for the file, in each version that can say its pad bits, if each scan may have a segment
abbrev pub FileIsRestored : Type 0
FileIsRestored =
    (version : Version) (mosts made file : List ℕ) → AllByRecursion (λ most. 0 < most) mosts
    → sum mosts ≤ (layout_of version).most → IsContainerOf version mosts made file
    → StandsFor made (record { bytes = file; verdict = Restored })

-- so does the one that encode makes
abbrev pub ContainerIsRestored : Type 0
ContainerIsRestored =
    (most : ℕ) (made file : List ℕ) → most ≤ most_segments → IsContainerOfFile most made file
    → StandsFor made (record { bytes = file; verdict = Restored })

-- and what stands for a file is its container in the version that it names, with as many segments in each scan as it
-- has, if that version is one of whole files
pub record IsOfFile (made file : List ℕ) : Type 0 where
  pub mosts : List ℕ
  pub some : AllByRecursion (λ most. 0 < most) mosts
  pub few : sum mosts ≤ (layout_of (version_in made)).most
  pub is : IsContainerOf (version_in made) mosts made file
  pub each : (scans : List BoxSeen) → IsContainer scans made
      → mosts ≡ map (λ (s : BoxSeen). length s.parts.handovers) scans

abbrev pub RestoredIsContainer : Type 0
RestoredIsContainer =
    (made file : List ℕ) → (layout_of (version_in made)).chunked ≡ false
    → StandsFor made (record { bytes = file; verdict = Restored }) → IsOfFile made file

-- a file has one container of each version and number of segments
abbrev pub OneContainer : Type 0
OneContainer =
    (version : Version) (mosts made other file : List ℕ)
    → IsContainerOf version mosts made file → IsContainerOf version mosts other file → made ≡ other

abbrev pub OneContainerOfFile : Type 0
OneContainerOfFile =
    (most : ℕ) (made other file : List ℕ)
    → IsContainerOfFile most made file → IsContainerOfFile most other file → made ≡ other

-- a file that has a container isn't refused, and one that is refused is so for one cause
abbrev pub ContainedIsNotRefused : Type 0
ContainedIsNotRefused =
    (version : Version) (mosts made file : List ℕ) (refusal : FileRefusal)
    → IsContainerOf version mosts made file → FileIsRefused file refusal → ⊥

abbrev pub OneFileRefusal : Type 0
OneFileRefusal =
    (file : List ℕ) (refusal other : FileRefusal) → AllByRecursion IsByte file
    → FileIsRefused file refusal → FileIsRefused file other → refusal ≡ other

-- neither is a file that has scans
abbrev pub AcceptedIsNotRefused : Type 0
AcceptedIsNotRefused =
    (file trailer : List ℕ) (scans : List FileScan) (refusal : FileRefusal)
    → AllByRecursion IsByte file → IsFile file scans trailer → FileIsRefused file refusal → ⊥

-- a file of several scans isn't one of one
abbrev pub SeveralIsNotOne : Type 0
SeveralIsNotOne =
    (file trailer : List ℕ) (plan : PlanFields) (mcus : List Mcu) (pads : List Bool)
    → AllByRecursion IsByte file → HasSeveralScans file → IsFileOf file plan mcus pads trailer → ⊥

-- the container of a file that encode takes is within what decode takes
abbrev pub ContainerIsShort : Type 0
ContainerIsShort =
    (version : Version) (mosts made file : List ℕ) → AllByRecursion (λ most. 0 < most) mosts
    → sum mosts ≤ (layout_of version).most → IsContainerOf version mosts made file
    → length file ≤ most_of_a_file → length made ≤ most_of_a_container

abbrev pub ContainerOfFileIsShort : Type 0
ContainerOfFileIsShort =
    (most : ℕ) (made file : List ℕ) → most ≤ most_segments
    → IsContainerOfFile most made file → length file ≤ most_of_a_file
    → length made ≤ most_of_a_container
