-- Statement: what `sample` says of the file that it made (docs/SAMPLE.md).
use Rattle.std.specs.Prelude.{ℕ, ◌≡◌, List, [], ◌∷◌, ◌++◌, codes, decimal, length}
use Rattle.cut_spec.specs.Cuts.{cut_of}
use Rattle.box_format.specs.declared.version.Version.TheVariants.{Second}
use Rattle.container_spec.specs.ScansFiles.{IsContainerOf}
use Rattle.sample_jpeg.specs.SampleFile.{sample_file}

-- the most segments that a sample is encoded in
abbrev pub sample_segments : ℕ
sample_segments = 8

-- the most workers that decode it
abbrev pub sample_workers : ℕ
sample_workers = 4

-- a line: a word with a space after it, and a number
abbrev pub entry : List ℕ → ℕ → List ℕ
entry word number = word ++ (decimal number ++ 10 ∷ [])

-- the lines: how many bytes the file has, how many its container, its segments, the workers that decode it at most, and
-- how many bytes they restore
abbrev pub summary_of : ℕ → ℕ → ℕ → ℕ → List ℕ
summary_of file made segments restored =
    entry (codes "file ") file
    ++ (entry (codes "box ") made
    ++ (entry (codes "segments ") segments
    ++ (entry (codes "workers ") sample_workers ++ entry (codes "restored ") restored)))

-- the summary of a seed and a size: of its file and that file's container; as many bytes are restored as the file has
abbrev pub IsSummary : ℕ → ℕ → ℕ → List ℕ → Type 0
IsSummary seed columns rows summary =
    let file = sample_file seed columns rows in
    (made : List ℕ) × IsContainerOf Second (sample_segments ∷ []) made file
    × (summary
    ≡ summary_of (length file) (length made) (cut_of columns rows sample_segments).segments
    (length file))
