-- Statement: the file that a seed and a size give (docs/SAMPLE.md, The file).
use Rattle.std.specs.Prelude.{ℕ, ◌*◌, Bool, true, List, [], ◌∷◌, ◌++◌, replicate, Ok, Err}
use Rattle.scan_spec.specs.Scans.{Bytes, Mcu, scan_bytes}
use Rattle.scan_spec.specs.Slots.{shape_of}
use Rattle.scan_spec.specs.Pads.{interval_count}
use Rattle.sample_jpeg.specs.DrawnMcus.{drawn_mcus}
use Rattle.sample_jpeg.specs.declared.extent.Extent.{Extent}
use Rattle.sample_jpeg.specs.SampleHeader.{extent_of, sample_header, sample_plan}

-- EOI (B.2.1)
abbrev pub end_of_image : List ℕ
end_of_image = 0xff ∷ 0xd9 ∷ []

-- the MCUs of a picture, row by row
abbrev pub sample_mcus : ℕ → Extent → List Mcu
sample_mcus seed e = (drawn_mcus (e.columns * e.rows) seed).value

-- bytes, if there are any
abbrev pub bytes_or_none : Bytes → List ℕ
bytes_or_none (Ok bytes) = bytes
bytes_or_none (Err stop) = []

-- the bytes of the scan, with pad bits of ones; the law of samples says that there are some
abbrev pub sample_scan : ℕ → Extent → List ℕ
sample_scan seed e =
    bytes_or_none (scan_bytes (shape_of (sample_plan e)) (λ n. true) (sample_mcus seed e))

-- the file
unfoldable pub sample_file : ℕ → ℕ → ℕ → List ℕ
sample_file seed columns rows =
    let e = extent_of seed columns rows in
    sample_header e ++ (sample_scan seed e ++ end_of_image)

-- pad bits of ones, one for each restart interval
abbrev pub sample_pads : Extent → List Bool
sample_pads e = replicate (interval_count (shape_of (sample_plan e))) true
