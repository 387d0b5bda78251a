-- A refusal in encoding is that of the pass over the scan, and one in reading a file of one scan is that of either.
use Rattle.std.proofs.Common.{◌≡◌}
use Rattle.scan_spec.specs.declared.refusal.ScanRefusal.{ScanRefusal}
use Rattle.segment_code.specs.declared.error.ScanError.{ScanError}
use Rattle.segment_code.specs.declared.error.ScanError.TheVariants as found
use Rattle.jpeg_marker.specs.declared.refusal.HeaderRefusal.{HeaderRefusal}
use Rattle.lepton_encode.specs.declared.error.EncodeError.{EncodeError}
use Rattle.lepton_encode.specs.declared.error.EncodeError.TheVariants.{Header, Scan, NoMemory}
use Rattle.lepton_encode.specs.declared.error.OneScanError.TheVariants as one
use Rattle.lepton_encode.specs.Errors.{as_one_scan_error, error_of, one_scan_error_of}

pub scan_found : (error : ScanError) (refusal : ScanRefusal) → error_of error ≡ Scan refusal
    → error ≡ found.Scan refusal
scan_found (found.Scan other) refusal is = cc
scan_found (found.NoMemory short) refusal is = absurd cc

pub one_scan_found : (error : ScanError) (refusal : ScanRefusal)
    → one_scan_error_of error ≡ one.Scan refusal → error ≡ found.Scan refusal
one_scan_found (found.Scan other) refusal is = cc
one_scan_found (found.NoMemory short) refusal is = absurd cc

pub header_as : (error : EncodeError) (refusal : HeaderRefusal)
    → as_one_scan_error error ≡ one.Header refusal → error ≡ Header refusal
header_as (Header other) refusal is = cc
header_as (Scan other) refusal is = absurd cc
header_as (NoMemory short) refusal is = absurd cc

pub scan_as : (error : EncodeError) (refusal : ScanRefusal)
    → as_one_scan_error error ≡ one.Scan refusal → error ≡ Scan refusal
scan_as (Header other) refusal is = absurd cc
scan_as (Scan other) refusal is = cc
scan_as (NoMemory short) refusal is = absurd cc
