-- Steps: errors of the pass over a scan, as errors of cutting (own).
use Rattle.segment_code.specs.declared.error.ScanError.{ScanError}
use Rattle.segment_code.specs.declared.error.ScanError.TheVariants as found
use Rattle.lepton_encode.specs.declared.error.OneScanError.{OneScanError}
use Rattle.lepton_encode.specs.declared.error.OneScanError.TheVariants as one
use Rattle.chunk_cut.specs.declared.error.CutError.{CutError}
use Rattle.chunk_cut.specs.declared.error.CutError.TheVariants.{Header, Scan, ManyScans, NoMemory}

-- an error of the pass, as an error of cutting
abbrev pub error_of : ScanError → CutError
error_of (found.Scan refusal) = Scan refusal
error_of (found.NoMemory short) = NoMemory short

-- and an error of reading a file of one scan
abbrev pub as_cut_error : OneScanError → CutError
as_cut_error (one.Header refusal) = Header refusal
as_cut_error (one.Scan refusal) = Scan refusal
as_cut_error one.ManyScans = ManyScans
as_cut_error (one.NoMemory short) = NoMemory short
