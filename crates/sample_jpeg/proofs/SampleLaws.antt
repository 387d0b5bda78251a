-- Every sample is a file that is taken.
use Rattle.std.proofs.Common.{◌≡◌, ℕ, ◌*◌, ◌≤◌, Bool, true, false, List, [], ◌++◌, length, Ok, refl, sym, ap, subst, ◌∙◌, arith, length-append, append-nil}
use Rattle.std.proofs.Math.Nat.{mul-le-mul_left, mul-le-mul_right}
use Rattle.std.proofs.Math.Seq.{drop-append_seam}
use Rattle.jpeg_marker.specs.HeaderPlan.{Accepts}
use Rattle.scan_spec.specs.Scans.{scan_bytes, intervals_of, pad_counts, pad_at}
use Rattle.scan_spec.specs.Pads.{interval_count}
use Rattle.scan_spec.specs.ScanLaws.{IsShape}
use Rattle.scan_spec.specs.Slots.{shape_of}
use Rattle.scan_spec.specs.Spots.{first_spot}
use Rattle.scan_spec.proofs.PlanShapes.{accepted_is_shape}
use Rattle.scan_spec.proofs.PadsAlike.{pads_alike, intervals_are, ones_are, ones_agree}
use Rattle.sample_jpeg.specs.declared.extent.Extent.{Extent}
use Rattle.sample_jpeg.specs.SampleFile.{bytes_or_none, end_of_image, sample_file, sample_mcus, sample_pads, sample_scan}
use Rattle.sample_jpeg.specs.SampleLaw.{IsSample, SamplesAreFiles}
use Rattle.sample_jpeg.specs.SampleHeader.{IsExtent, extent_of, sample_header, sample_plan}
use Rattle.sample_jpeg.proofs.SampleHeaders.{sample_accepts, sample_header_bytes}
use Rattle.sample_jpeg.proofs.SampleMcus.{AreBytes, all_both}
use Rattle.sample_jpeg.proofs.SampleScans.{in_grid, mcus_few, scan_of}

pub sample_shape : (e : Extent) → IsExtent e → IsShape (shape_of (sample_plan e))
sample_shape e is =
    let accepts : Accepts (sample_header e) (sample_plan e) = subst (λ bytes. Accepts bytes (sample_plan e)) (append-nil (sample_header e)) (sample_accepts e [] is) in
    (accepted_is_shape (sample_header e) (sample_plan e) (sample_header_bytes e is) accepts).0

-- the header has at most 257 bytes
header_long : (restarts : Bool) (columns rows : ℕ) → length (sample_header (record { restarts = restarts; columns = columns; rows = rows })) ≤ 257
unfolding sample_header
header_long true columns rows = omega arith
header_long false columns rows = omega arith

header_few : (e : Extent) → length (sample_header e) ≤ 257
header_few e = header_long e.restarts e.columns e.rows

few_mcus : (e : Extent) → IsExtent e → e.columns * e.rows ≤ 65536
few_mcus e is = omega (arith, mul-le-mul_left e.columns is.low, mul-le-mul_right 256 is.narrow)

-- the scan has bytes
pub record HasScan (seed : ℕ) (e : Extent) : Type 0 where
  pub text : scan_bytes (shape_of (sample_plan e)) (λ n. true) (sample_mcus seed e) ≡ Ok (sample_scan seed e)
  pub few : length (sample_scan seed e) ≤ 588 * (e.columns * e.rows)
  pub bytes : AreBytes (sample_scan seed e)

pub has_scan : (seed : ℕ) (e : Extent) → IsExtent e → HasScan seed e
has_scan seed e is =
    let shape = shape_of (sample_plan e) in
    let put = mcus_few (e.columns * e.rows) seed shape first_spot refl (omega arith) (omega arith, (omega arith, (omega arith, (omega arith, tt)))) in
    let text : scan_bytes shape (λ n. true) (sample_mcus seed e) ≡ Ok put.text = scan_of shape seed put.text put.end (sample_shape e is) refl put.is in
    let same : put.text ≡ sample_scan seed e = sym (ap bytes_or_none text) in
    record {
      text = text ∙ ap (λ (l : List ℕ). Ok l) same;
      few = subst (λ l. length l ≤ 588 * (e.columns * e.rows)) same put.few;
      bytes = subst AreBytes same put.bytes;
    }

pub sample_is : (seed : ℕ) (e : Extent) → IsExtent e → IsSample seed e (sample_header e ++ (sample_scan seed e ++ end_of_image))
sample_is seed e is =
    let scan = has_scan seed e is in
    let rest = sample_scan seed e ++ end_of_image in
    let shape = shape_of (sample_plan e) in
    let mcus = sample_mcus seed e in
    let grid = in_grid shape seed refl in
    let counts = pad_counts shape.slots (intervals_of shape mcus) in
    let pads = interval_count shape in
    let many : length counts ≡ pads = intervals_are shape mcus (sample_shape e is).mcus grid.count in
    record {
      bytes = all_both (sample_header e) rest (sample_header_bytes e is) (all_both (sample_scan seed e) end_of_image scan.bytes (omega arith, (omega arith, tt)));
      is = record {
        header = sample_accepts e rest is;
        scan = sample_scan seed e;
        is = record { grid = grid; told = ones_are counts pads (sym many); text = pads_alike shape mcus (pad_at (sample_pads e)) (λ n. true) (ones_agree counts pads 0) ∙ scan.text };
        text = drop-append_seam (sample_header e) rest;
      };
      short = omega (arith, length-append (sample_header e) rest, length-append (sample_scan seed e) end_of_image, header_few e, scan.few, few_mcus e is);
    }

pub samples : SamplesAreFiles
unfolding sample_file
samples seed columns rows is = sample_is seed (extent_of seed columns rows) is
