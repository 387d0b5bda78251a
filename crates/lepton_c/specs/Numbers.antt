-- Statement: an answer in numbers (README.md, Use).
use Rattle.std.specs.Prelude.{ℕ}
use Rattle.jpeg_marker.specs.HeaderRefusals.{number_of as header_number}
use Rattle.jpeg_marker.specs.declared.refusal.HeaderRefusal.{HeaderRefusal}
use Rattle.jpeg_marker.specs.declared.refusal.HeaderRefusal.TheVariants.{MarkerBad, NotBaseline, LengthBad, TableBad}
use Rattle.scan_spec.specs.declared.refusal.ScanRefusal.{ScanRefusal}
use Rattle.scan_spec.specs.declared.refusal.ScanRefusal.TheVariants.{ScanCut, CodeBad, SymbolBad, RunPast, LooseZeros, DcRange, MarkerInScan, RestartBad, MixedPad}
use Rattle.box_format.specs.declared.refusal.BoxRefusal.{BoxRefusal}
use Rattle.box_format.specs.declared.refusal.BoxRefusal.TheVariants.{BoxMagic, BoxVersion, BoxCut, BoxHeader, HeaderLong, BoxSegments, BoxChunk, BoxPad, HandoverBad, BoxPlaces, BoxLong}
use Rattle.handover.specs.declared.outcome.StreamCause.{StreamCause}
use Rattle.handover.specs.declared.outcome.StreamCause.TheVariants as causes
use Rattle.lepton_c.specs.declared.answer.Answer.{Answer}
use Rattle.lepton_c.specs.declared.answer.Answer.TheVariants.{Done, Counted, Header, Scan, Box, Fault, PadSpelling, ChunkShort, TooLong, NoChunk, ManyScans, RangeBad, BadCall, NoRoom, Larger, NoMemory}
use Rattle.lepton_c.specs.declared.numbers.LeptonEnding.{LeptonEnding}

-- an answer that isn't a refusal
abbrev pub plain : ℕ → ℕ → LeptonEnding
plain status length =
    record { status = status; number = 0; inner = 0; detail = 0; length = length; wanted = 0 }

-- an answer of which nothing is written, but how much room it takes
abbrev pub sized : ℕ → ℕ → LeptonEnding
sized status wanted =
    record { status = status; number = 0; inner = 0; detail = 0; length = 0; wanted = wanted }

-- a refusal
abbrev pub refused : ℕ → ℕ → ℕ → ℕ → LeptonEnding
refused number inner detail length =
    record { status = 1; number = number; inner = inner; detail = detail; length = length; wanted = 0 }

-- the number of a scan's refusal
abbrev pub scan_number : ScanRefusal → ℕ
scan_number (ScanCut place) = 16
scan_number (CodeBad place) = 17
scan_number (SymbolBad place) = 18
scan_number (RunPast place) = 19
scan_number (LooseZeros place) = 20
scan_number (DcRange place) = 21
scan_number (MarkerInScan place) = 22
scan_number (RestartBad place) = 23
scan_number (MixedPad place) = 24

-- its place
abbrev pub scan_detail : ScanRefusal → ℕ
scan_detail (ScanCut place) = place
scan_detail (CodeBad place) = place
scan_detail (SymbolBad place) = place
scan_detail (RunPast place) = place
scan_detail (LooseZeros place) = place
scan_detail (DcRange place) = place
scan_detail (MarkerInScan place) = place
scan_detail (RestartBad place) = place
scan_detail (MixedPad place) = place

-- the number of a container's refusal
abbrev pub box_number : BoxRefusal → ℕ
box_number BoxMagic = 30
box_number BoxVersion = 31
box_number BoxCut = 32
box_number (BoxHeader refusal) = 33
box_number BoxSegments = 34
box_number BoxPad = 35
box_number (HandoverBad segment) = 36
box_number BoxLong = 37
box_number (HeaderLong place) = 38
box_number BoxChunk = 39
box_number BoxPlaces = 53

-- of a container whose header is refused, that of the header's refusal, else 0
abbrev pub box_inner : BoxRefusal → ℕ
box_inner (BoxHeader refusal) = header_number refusal
box_inner other = 0

-- the number of a segment's fault
abbrev pub cause_number : StreamCause → ℕ
cause_number causes.BlockCount = 40
cause_number causes.DcRange = 41
cause_number causes.DiffRange = 42
cause_number causes.NoCode = 43
cause_number (causes.Seam found kept) = 44
cause_number causes.StreamBad = 45
cause_number (causes.PlaceBad found kept) = 48

-- the place or the code that a header's refusal holds, else 0
abbrev pub header_detail : HeaderRefusal → ℕ
header_detail (MarkerBad place) = place
header_detail (NotBaseline code) = code
header_detail (LengthBad place) = place
header_detail (TableBad place) = place
header_detail other = 0

-- the same, or the segment, of a container's
abbrev pub box_detail : BoxRefusal → ℕ
box_detail (BoxHeader refusal) = header_detail refusal
box_detail (HandoverBad segment) = segment
box_detail (HeaderLong place) = place
box_detail other = 0

-- an answer in numbers
abbrev pub numbers_of : Answer → LeptonEnding
numbers_of (Done length) = plain 0 length
numbers_of (Counted wanted) = sized 0 wanted
numbers_of (Header refusal) = refused (header_number refusal) 0 (header_detail refusal) 0
numbers_of (Scan refusal) = refused (scan_number refusal) 0 (scan_detail refusal) 0
numbers_of (Box refusal) = refused (box_number refusal) (box_inner refusal) (box_detail refusal) 0
numbers_of (Fault fault length) = refused (cause_number fault.cause) 0 fault.segment length
numbers_of (PadSpelling length) = refused 46 0 0 length
numbers_of (ChunkShort length) = refused 47 0 0 length
numbers_of TooLong = refused 50 0 0 0
numbers_of NoChunk = refused 51 0 0 0
numbers_of ManyScans = refused 52 0 0 0
numbers_of RangeBad = refused 54 0 0 0
numbers_of BadCall = plain 2 0
numbers_of (NoRoom length) = plain 4 length
numbers_of (Larger wanted) = sized 4 wanted
numbers_of NoMemory = plain 5 0
