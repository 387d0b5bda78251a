-- Steps: errors of the pass over a scan, as errors of encoding (own).
use Rattle.segment_code.specs.declared.error.ScanError.{ScanError}
use Rattle.segment_code.specs.declared.error.ScanError.TheVariants as found
use Rattle.lepton_encode.specs.declared.error.EncodeError.{EncodeError}
use Rattle.lepton_encode.specs.declared.error.EncodeError.TheVariants.{Header, Scan, NoMemory}
use Rattle.lepton_encode.specs.declared.error.OneScanError.{OneScanError}
use Rattle.lepton_encode.specs.declared.error.OneScanError.TheVariants as one

-- an error of the pass, as an error of encoding
abbrev pub error_of : ScanError → EncodeError
error_of (found.Scan refusal) = Scan refusal
error_of (found.NoMemory short) = NoMemory short

-- as one of reading a file of one scan
abbrev pub one_scan_error_of : ScanError → OneScanError
one_scan_error_of (found.Scan refusal) = one.Scan refusal
one_scan_error_of (found.NoMemory short) = one.NoMemory short

-- and an error of encoding as one
abbrev pub as_one_scan_error : EncodeError → OneScanError
as_one_scan_error (Header refusal) = one.Header refusal
as_one_scan_error (Scan refusal) = one.Scan refusal
as_one_scan_error (NoMemory short) = one.NoMemory short
