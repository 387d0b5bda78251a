-- A refusal in cutting is that of the pass over the scan, or of reading a file of one scan.
use Rattle.std.proofs.Common.{◌≡◌, refl}
use Rattle.scan_spec.specs.declared.refusal.ScanRefusal.{ScanRefusal}
use Rattle.segment_code.specs.declared.error.ScanError.{ScanError}
use Rattle.segment_code.specs.declared.error.ScanError.TheVariants as found
use Rattle.jpeg_marker.specs.declared.refusal.HeaderRefusal.{HeaderRefusal}
use Rattle.lepton_encode.specs.declared.error.OneScanError.{OneScanError}
use Rattle.lepton_encode.specs.declared.error.OneScanError.TheVariants as one
use Rattle.chunk_cut.specs.declared.error.CutError.TheVariants.{Header, Scan, ManyScans}
use Rattle.chunk_cut.specs.Errors.{as_cut_error, error_of}

pub scan_found : (error : ScanError) (refusal : ScanRefusal) → error_of error ≡ Scan refusal
    → error ≡ found.Scan refusal
scan_found (found.Scan other) refusal is = cc
scan_found (found.NoMemory short) refusal is = absurd cc

pub header_as : (error : OneScanError) (refusal : HeaderRefusal)
    → as_cut_error error ≡ Header refusal → error ≡ one.Header refusal
header_as (one.Header other) refusal is = cc
header_as (one.Scan other) refusal is = absurd cc
header_as one.ManyScans refusal is = absurd cc
header_as (one.NoMemory short) refusal is = absurd cc

pub scan_as : (error : OneScanError) (refusal : ScanRefusal) → as_cut_error error ≡ Scan refusal
    → error ≡ one.Scan refusal
scan_as (one.Header other) refusal is = absurd cc
scan_as (one.Scan other) refusal is = cc
scan_as one.ManyScans refusal is = absurd cc
scan_as (one.NoMemory short) refusal is = absurd cc

pub many_as : (error : OneScanError) → as_cut_error error ≡ ManyScans → error ≡ one.ManyScans
many_as (one.Header other) is = absurd cc
many_as (one.Scan other) is = absurd cc
many_as one.ManyScans is = refl
many_as (one.NoMemory short) is = absurd cc
