-- Law: what holds of all ranges of containers' files (own).
use Rattle.std.specs.Prelude.{ℕ, ◌≡◌, ◌≤◌, false, List, length, None}
use Rattle.byte_window.specs.Slices.{slice}
use Rattle.jpeg_marker.specs.Plans.{PlanFields}
use Rattle.byte_window.specs.PartedFiles.{begun_within}
use Rattle.box_format.specs.Parts.{BoxParts, file_end}
use Rattle.box_format.specs.Single.{IsBox}
use Rattle.box_format.specs.declared.version.Version.TheVariants.{Fifth}
use Rattle.container_spec.specs.Meanings.{Restored}
use Rattle.container_spec.specs.Portions.{meaning_of}
use Rattle.container_spec.specs.RangeMeanings.{is_bad_range, placed_file, places_of, range_meaning}

-- a container of the fifth version stands for this file
pub record RestoresFile (plan : PlanFields) (b : BoxParts) (file : List ℕ) : Type 0 where
  pub box : IsBox plan b
  pub fifth : b.version ≡ Fifth
  pub restored : meaning_of plan b ≡ record { bytes = file; verdict = Restored }

-- the place where it says that its file ends is the file's end
abbrev pub EndIsKept : Type 0
EndIsKept =
    (plan : PlanFields) (b : BoxParts) (file : List ℕ) → RestoresFile plan b file
    → file_end b (places_of b.places) ≡ length file

-- a range of it is the file's slice
abbrev pub RangeIsSlice : Type 0
RangeIsSlice =
    (plan : PlanFields) (b : BoxParts) (file : List ℕ) (from to : ℕ) → RestoresFile plan b file
    → from ≤ to → to ≤ length file
    → (is_bad_range b from to ≡ false)
    × (range_meaning plan b from to ≡ record {
      bytes = slice from to file;
      fault = None;
      begun = begun_within (placed_file plan b) from to;
    })
