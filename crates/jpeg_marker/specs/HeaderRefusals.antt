-- Statement: the refusals of headers by number (docs/JPEG.md, Headers).
use Rattle.std.specs.Prelude.{ℕ, Option, Some, None, Result, Ok, Err}
use Rattle.jpeg_marker.specs.declared.refusal.HeaderRefusal.{HeaderRefusal}
use Rattle.jpeg_marker.specs.declared.refusal.HeaderRefusal.TheVariants.{NotJpeg, HeaderCut, MarkerBad, NotBaseline, LengthBad, FrameTwice, PrecisionBad, SizeZero, ComponentsBad, TableBad, NoFrame, MultiScan, ScanParams, NoTable, TooManyBlocks}

-- the number that stands for a refusal (own)
abbrev pub number_of : HeaderRefusal → ℕ
number_of NotJpeg = 1
number_of HeaderCut = 2
number_of (MarkerBad place) = 3
number_of (NotBaseline code) = 4
number_of (LengthBad place) = 5
number_of FrameTwice = 6
number_of PrecisionBad = 7
number_of SizeZero = 8
number_of ComponentsBad = 9
number_of (TableBad place) = 10
number_of NoFrame = 11
number_of MultiScan = 12
number_of ScanParams = 13
number_of NoTable = 14
number_of TooManyBlocks = 15

-- the refusal that a check answers, if any
abbrev pub fault_in : {A : Type 0} → Result A HeaderRefusal → Option HeaderRefusal
fault_in (Ok found) = None
fault_in (Err refusal) = Some refusal
