-- Steps: what is known of a sample that is encoded (own).
use Rattle.std.specs.Prelude.{ℕ, ◌≡◌, List}
use Rattle.sample_jpeg.specs.SampleFile.{sample_file}
use Rattle.sample_jpeg.specs.SampleHeader.{IsExtent, extent_of}

-- these bytes are the file of some seed and size
pub record IsSampleFile (file : List ℕ) : Type 0 where
  pub seed : ℕ
  pub columns : ℕ
  pub rows : ℕ
  pub extent : IsExtent (extent_of seed columns rows)
  pub is : file ≡ sample_file seed columns rows
