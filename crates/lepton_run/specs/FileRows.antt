-- Rows: a file of two scans, by its scans, and the least file, by its container (own).
use Rattle.std.specs.Prelude.{ℕ, true, List, [], ◌∷◌, ◌++◌}
use Rattle.jpeg_marker.specs.Plans.{PlanFields}
use Rattle.scan_spec.specs.FileParts.{FileScan, IsFile}
use Rattle.scan_spec.specs.ScanRows.{blank}
use Rattle.box_format.specs.Rows.{grey_header, image_end, second_box}
use Rattle.box_format.specs.ScansRows.{header_one, header_two, plan_one, plan_two}
use Rattle.command_words.specs.declared.command.Command.TheVariants.{Encode}
use Rattle.lepton_run.specs.Answers.{Answers, Made}

-- a scan of one block of zeros, after whose bits are pad bits of 1
abbrev pub zeros_scan : PlanFields → FileScan
zeros_scan plan = record { plan = plan; mcus = blank ∷ []; pads = true ∷ [] }

-- both scans of the file
abbrev pub first : FileScan
first = zeros_scan plan_one

abbrev pub second : FileScan
second = zeros_scan plan_two

-- what follows the first scan
abbrev pub after_first : List ℕ
after_first = header_two ++ 0x3f ∷ image_end

-- the file, byte for byte
abbrev pub two_scans_file : List ℕ
two_scans_file = header_one ++ 0x3f ∷ after_first

-- it is accepted, with these scans and the end of the image as its trailer
abbrev pub two_scans : Type 0
two_scans = IsFile two_scans_file (first ∷ second ∷ []) image_end

-- the least file, byte for byte
abbrev pub least_file : List ℕ
least_file = grey_header 8 ++ 0x3f ∷ image_end

-- its container, which is what encode makes of it
abbrev pub least : Type 0
least = Answers (Encode 8) least_file (Made second_box)
