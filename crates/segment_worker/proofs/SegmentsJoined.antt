-- The segments of a stretch, joined one after another.
use Rattle.std.proofs.Common.{◌≡◌, ℕ, suc, ◌+◌, ◌-◌, ◌<◌, List, [], ◌++◌, refl, sym, ap, ap₂, ◌∙◌, arith, append_assoc, append-nil, Some}
use Rattle.handover.specs.declared.pads.PadSum.{PadSum}
use Rattle.handover.specs.declared.outcome.Outcome.{Outcome}
use Rattle.handover.specs.declared.outcome.Outcome.TheVariants.{Good, Bad}
use Rattle.handover.specs.declared.outcome.StreamFault.{StreamFault}
use Rattle.container_spec.specs.ScansMeanings.{scan_of}
use Rattle.handover.specs.ScanSums.{ScanPads, sums_of, sums_with}
use Rattle.handover.proofs.PadsSummed.{sums_of_more}
use Rattle.container_spec.specs.ScansJoined.{ScansJoined, scanned_from, scanned_with, scans_joined}
use Rattle.segment_worker.specs.Contents.{Stretch}
use Rattle.segment_worker.specs.Emitting.{joined_in}
use Rattle.segment_worker.specs.Joining.{joined_from, joined_onto}
use Rattle.segment_worker.proofs.ContentsTold.{output_of}

-- the number of the scan that has the stretch's segment with an index
abbrev pub scan_at : Stretch → ℕ → ℕ
scan_at v i = scan_of 0 v.container (v.first + i)

-- the segment with an index comes before those after it
from_next : (v : Stretch) (i : ℕ) → i < v.count
    → joined_from v i
    ≡ scanned_with (scan_at v i) (output_of v i).0 (output_of v i).1 (joined_from v (i + 1))
from_next v i under =
    let e : v.count - i ≡ suc (v.count - (i + 1)) = omega arith in
    let n : (v.first + i) + 1 ≡ v.first + (i + 1) = omega arith in
    ap (λ (k : ℕ). scans_joined (scanned_from v.container (v.first + i) k)) e
    ∙ ap (λ (m : ℕ). scanned_with (scan_at v i) (output_of v i).0 (output_of v i).1
    (scans_joined (scanned_from v.container m (v.count - (i + 1))))) n

onto_good : (scan : ℕ) (bytes out : List ℕ) (padded : ScanPads) (more : PadSum) (rest : ScansJoined)
    → joined_onto bytes padded (scanned_with scan out (Good more) rest)
    ≡ joined_onto (bytes ++ out) (sums_with padded (sums_of scan more)) rest
onto_good scan bytes out padded more rest =
    ap₂ (λ (l : List ℕ) (p : ScanPads). record { bytes = l; fault = rest.fault; padded = p })
    (sym (append_assoc bytes out rest.bytes)) (sums_of_more padded (sums_of scan more) rest.padded)

-- after a good segment
pub good_next : (v : Stretch) (i : ℕ) (bytes : List ℕ) (padded : ScanPads) (more : PadSum)
    → i < v.count
    → joined_in v ≡ joined_onto bytes padded (joined_from v i)
    → Good more ≡ (output_of v i).1
    → joined_in v
    ≡ joined_onto (bytes ++ (output_of v i).0) (sums_with padded (sums_of (scan_at v i) more))
    (joined_from v (i + 1))
good_next v i bytes padded more under all good =
    all ∙ ap (joined_onto bytes padded) (from_next v i under
    ∙ ap (λ (o : Outcome). scanned_with (scan_at v i) (output_of v i).0 o (joined_from v (i + 1)))
    (sym good))
    ∙ onto_good (scan_at v i) bytes (output_of v i).0 padded more (joined_from v (i + 1))

-- at a bad one
pub bad_next : (v : Stretch) (i : ℕ) (bytes : List ℕ) (padded : ScanPads)
    (fault : StreamFault) → i < v.count
    → joined_in v ≡ joined_onto bytes padded (joined_from v i)
    → Bad fault ≡ (output_of v i).1
    → ((joined_in v).fault ≡ Some fault)
    × ((joined_in v).bytes ≡ bytes ++ (output_of v i).0)
bad_next v i bytes padded fault under all bad =
    let e = all ∙ ap (joined_onto bytes padded) (from_next v i under
    ∙ ap (λ (o : Outcome). scanned_with (scan_at v i) (output_of v i).0 o (joined_from v (i + 1)))
    (sym bad)) in
    (ap (λ (j : ScansJoined). j.fault) e, ap (λ (j : ScansJoined). j.bytes) e)

-- whatever its outcome, its bytes come next
some_next : (scan : ℕ) (out : List ℕ) (outcome : Outcome) (rest : ScansJoined)
    → (more : List ℕ) × ((scanned_with scan out outcome rest).bytes ≡ out ++ more)
some_next scan out (Good padded) rest = (rest.bytes, refl)
some_next scan out (Bad fault) rest = ([], sym (append-nil out))

pub bytes_next : (v : Stretch) (i : ℕ) (bytes : List ℕ) (padded : ScanPads)
    → i < v.count
    → joined_in v ≡ joined_onto bytes padded (joined_from v i)
    → (more : List ℕ) × ((joined_in v).bytes ≡ bytes ++ ((output_of v i).0 ++ more))
bytes_next v i bytes padded under all =
    let s = some_next (scan_at v i) (output_of v i).0 (output_of v i).1 (joined_from v (i + 1)) in (
      s.0,
      ap (λ (j : ScansJoined). j.bytes) all
          ∙ ap (λ (j : ScansJoined). bytes ++ j.bytes) (from_next v i under)
          ∙ ap (λ (l : List ℕ). bytes ++ l) s.1,
    )
