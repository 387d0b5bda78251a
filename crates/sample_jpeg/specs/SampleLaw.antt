-- Law: every sample is a file (docs/SAMPLE.md, The file).
use Rattle.std.specs.Prelude.{ℕ, ◌≤◌, List, length}
use Rattle.std.specs.List.{AllByRecursion}
use Rattle.bit_list.specs.Bits.{IsByte}
use Rattle.scan_spec.specs.FileParts.{IsFileOf}
use Rattle.sample_jpeg.specs.declared.extent.Extent.{Extent}
use Rattle.sample_jpeg.specs.SampleHeader.{IsExtent, extent_of, sample_plan}
use Rattle.sample_jpeg.specs.SampleFile.{end_of_image, sample_mcus, sample_file, sample_pads}

-- a file of the sample's header, its MCUs and pad bits of ones, of at most 40,000,000 bytes
pub record IsSample (seed : ℕ) (e : Extent) (file : List ℕ) : Type 0 where
  pub bytes : AllByRecursion IsByte file
  pub is : IsFileOf file (sample_plan e) (sample_mcus seed e) (sample_pads e) end_of_image
  pub short : length file ≤ 40000000

-- the file of every seed and size is one
abbrev pub SamplesAreFiles : Type 0
SamplesAreFiles =
    (seed columns rows : ℕ) → IsExtent (extent_of seed columns rows)
    → IsSample seed (extent_of seed columns rows) (sample_file seed columns rows)
