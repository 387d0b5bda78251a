-- Statement: the lines of the message on stderr (README.md, Use).
use Rattle.std.specs.Prelude.{ℕ, List, [], ◌∷◌, ◌++◌, codes, decimal}
use Rattle.jpeg_marker.specs.HeaderRefusals.{number_of}
use Rattle.jpeg_marker.specs.declared.refusal.HeaderRefusal.{HeaderRefusal}
use Rattle.jpeg_marker.specs.declared.refusal.HeaderRefusal.TheVariants.{NotJpeg, HeaderCut, MarkerBad, NotBaseline, LengthBad, FrameTwice, PrecisionBad, SizeZero, ComponentsBad, TableBad, NoFrame, MultiScan, ScanParams, NoTable, TooManyBlocks}
use Rattle.scan_spec.specs.declared.refusal.ScanRefusal.{ScanRefusal}
use Rattle.scan_spec.specs.declared.refusal.ScanRefusal.TheVariants.{ScanCut, CodeBad, SymbolBad, RunPast, LooseZeros, DcRange, MarkerInScan, RestartBad, MixedPad}
use Rattle.box_format.specs.declared.refusal.BoxRefusal.{BoxRefusal}
use Rattle.box_format.specs.declared.refusal.BoxRefusal.TheVariants.{BoxMagic, BoxVersion, BoxCut, BoxHeader, HeaderLong, BoxSegments, BoxChunk, BoxPad, HandoverBad, BoxPlaces, BoxLong}
use Rattle.handover.specs.declared.outcome.StreamCause.{StreamCause}
use Rattle.handover.specs.declared.outcome.StreamCause.TheVariants as causes
use Rattle.lepton_run.specs.declared.refusal.Refusal.{Refusal}
use Rattle.lepton_run.specs.declared.refusal.Refusal.TheVariants.{Header, Scan, Box, Fault, PadSpelling, ChunkShort, NoChunk, ManyScans, RangeBad, TooLong}

-- room for every line, and for the lines of a summary
abbrev pub line_room : ℕ
line_room = 160

-- the name of a header's refusal
abbrev pub name_of : HeaderRefusal → List ℕ
name_of NotJpeg = codes "NotJpeg"
name_of HeaderCut = codes "HeaderCut"
name_of (MarkerBad place) = codes "MarkerBad"
name_of (NotBaseline code) = codes "NotBaseline"
name_of (LengthBad place) = codes "LengthBad"
name_of FrameTwice = codes "FrameTwice"
name_of PrecisionBad = codes "PrecisionBad"
name_of SizeZero = codes "SizeZero"
name_of ComponentsBad = codes "ComponentsBad"
name_of (TableBad place) = codes "TableBad"
name_of NoFrame = codes "NoFrame"
name_of MultiScan = codes "MultiScan"
name_of ScanParams = codes "ScanParams"
name_of NoTable = codes "NoTable"
name_of TooManyBlocks = codes "TooManyBlocks"

-- the place or the code that it holds, if it holds one, in decimal
abbrev pub fields_of : HeaderRefusal → List ℕ
fields_of (MarkerBad place) = codes " at " ++ decimal place
fields_of (NotBaseline code) = codes " code " ++ decimal code
fields_of (LengthBad place) = codes " at " ++ decimal place
fields_of (TableBad place) = codes " at " ++ decimal place
fields_of other = []

-- number and name of a scan's refusal
abbrev pub scan_words : ScanRefusal → List ℕ
scan_words (ScanCut place) = codes "16 ScanCut"
scan_words (CodeBad place) = codes "17 CodeBad"
scan_words (SymbolBad place) = codes "18 SymbolBad"
scan_words (RunPast place) = codes "19 RunPast"
scan_words (LooseZeros place) = codes "20 LooseZeros"
scan_words (DcRange place) = codes "21 DcRange"
scan_words (MarkerInScan place) = codes "22 MarkerInScan"
scan_words (RestartBad place) = codes "23 RestartBad"
scan_words (MixedPad place) = codes "24 MixedPad"

-- the place that it holds
abbrev pub scan_place : ScanRefusal → ℕ
scan_place (ScanCut place) = place
scan_place (CodeBad place) = place
scan_place (SymbolBad place) = place
scan_place (RunPast place) = place
scan_place (LooseZeros place) = place
scan_place (DcRange place) = place
scan_place (MarkerInScan place) = place
scan_place (RestartBad place) = place
scan_place (MixedPad place) = place

-- number and name of a header's refusal, and what it holds
abbrev pub header_text : HeaderRefusal → List ℕ
header_text refusal =
    decimal (number_of refusal) ++ codes " " ++ name_of refusal ++ fields_of refusal

-- number and name of a container's refusal
abbrev pub box_words : BoxRefusal → List ℕ
box_words BoxMagic = codes "30 BoxMagic"
box_words BoxVersion = codes "31 BoxVersion"
box_words BoxCut = codes "32 BoxCut"
box_words (BoxHeader refusal) = codes "33 BoxHeader"
box_words BoxSegments = codes "34 BoxSegments"
box_words BoxPad = codes "35 BoxPad"
box_words (HandoverBad segment) = codes "36 HandoverBad"
box_words BoxLong = codes "37 BoxLong"
box_words (HeaderLong place) = codes "38 HeaderLong"
box_words BoxChunk = codes "39 BoxChunk"
box_words BoxPlaces = codes "53 BoxPlaces"

-- what it holds, if anything: the header's refusal, the place or the segment
abbrev pub box_fields : BoxRefusal → List ℕ
box_fields (BoxHeader refusal) = codes " " ++ header_text refusal
box_fields (HandoverBad segment) = codes " segment " ++ decimal segment
box_fields (HeaderLong place) = codes " at " ++ decimal place
box_fields other = []

-- number and name of the cause of a segment's fault; the handovers of a seam are left out, and the numbers of places
abbrev pub cause_words : StreamCause → List ℕ
cause_words causes.BlockCount = codes "40 BlockCount"
cause_words causes.DcRange = codes "41 DcRange"
cause_words causes.DiffRange = codes "42 DiffRange"
cause_words causes.NoCode = codes "43 NoCode"
cause_words (causes.Seam found kept) = codes "44 Seam"
cause_words causes.StreamBad = codes "45 StreamBad"
cause_words (causes.PlaceBad found kept) = codes "48 PlaceBad"

-- number and name of a refusal, and what it holds
abbrev pub refusal_text : Refusal → List ℕ
refusal_text (Header refusal) = header_text refusal
refusal_text (Scan refusal) = scan_words refusal ++ codes " at " ++ decimal (scan_place refusal)
refusal_text (Box refusal) = box_words refusal ++ box_fields refusal
refusal_text (Fault fault) =
    cause_words fault.cause ++ codes " segment " ++ decimal fault.segment
refusal_text PadSpelling = codes "46 PadSpelling"
refusal_text ChunkShort = codes "47 ChunkShort"
refusal_text TooLong = codes "50 TooLong"
refusal_text NoChunk = codes "51 NoChunk"
refusal_text ManyScans = codes "52 ManyScans"
refusal_text RangeBad = codes "54 RangeBad"

-- a line
abbrev pub line : List ℕ → List ℕ
line text = codes "lepton: " ++ text ++ 10 ∷ []

-- the line of a refusal
abbrev pub refusal_line : Refusal → List ℕ
refusal_line refusal = line (codes "refused " ++ refusal_text refusal)
