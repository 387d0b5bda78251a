use Rattle.std.proofs.Common.{rules, ◌≡◌, ◌<◌, ◌≤◌, ◌+◌, ap, subst, arith, drop, length}
use Rattle.std.specs.Prelude.{Err}
use Rattle.std.specs.List.{AllByRecursion}
use Rattle.std.proofs.lemmas.Result.{err_from_is_err_and}
use Rattle.bit_list.specs.Bits.{IsByte}
use Rattle.lepton_encode.specs.declared.error.EncodeError.TheVariants.{Scan}
use Rattle.lepton_encode.specs.Errors.{error_of}
use Rattle.lepton_encode.proofs.FaultsFound.{scan_found}
use Rattle.lepton_encode.proofs.HeadsFound.{are_bytes, AreLeft, can, head_of, left_next, left_refused}
use Rattle.lepton_encode.proofs.ScansContained.{coded_all, coded_more, item_first}
use Rattle.lepton_encode.proofs.scans.code_scans.Goals as goal

pub code_scan-requires-clause-plan : goal.code_scan-requires-clause-plan
code_scan-requires-clause-plan g c =
    let bytes = c.args.bytes.now in
    let i = c.loop-head.head-index in
    let h = c.head-item.result in
    let all : AllByRecursion IsByte bytes =
    are_bytes bytes (λ i. let h = c.type_inv.bytes i in search rules) in
    let test = c.loop-head-test.true in
    let below : i < length c.args.heads.now = omega (arith, test) in
    let split = item_first c.args.heads.now i h below c.head-item.is in
    let left = subst (AreLeft bytes) split c.loop-head.invariant.left in
    can left.walk bytes h all (head_of left.walk bytes h (drop (i + 1) c.args.heads.now) left.are)

pub returns-in_err-starts-clause-scan : goal.returns-in_err-starts-clause-scan
returns-in_err-starts-clause-scan g c =
    let bytes = c.args.bytes.now in
    let i = c.loop-head.head-index in
    let h = c.head-item.result in
    let all : AllByRecursion IsByte bytes =
    are_bytes bytes (λ i. let h = c.type_inv.bytes i in search rules) in
    let test = c.loop-head-test.true in
    let below : i < length c.args.heads.now = omega (arith, test) in
    let split = item_first c.args.heads.now i h below c.head-item.is in
    let left = subst (AreLeft bytes) split c.loop-head.invariant.left in
    let p = err_from_is_err_and c.from_residual.result
    c.from_residual.ensures.1 in
    rw (p.1, p.2) (λ refusal is.
    let scan : error_of c.in_err-starts.field-0.0 ≡ Scan refusal = cc in
    let cause = ap (λ error. Err error) (scan_found c.in_err-starts.field-0.0 refusal scan) in
    left_refused bytes h (drop (i + 1) c.args.heads.now) refusal all left
    (c.in_err-starts.ensures.refused refusal cause))

pub loop-head-preserved : goal.loop-head-preserved
loop-head-preserved g c =
    let bytes = c.args.bytes.now in
    let heads = c.args.heads.now in
    let i = c.loop-head.head-index in
    let h = c.head-item.result in
    let all : AllByRecursion IsByte bytes =
    are_bytes bytes (λ i. let h = c.type_inv.bytes i in search rules) in
    let test = c.loop-head-test.true in
    let below : i < length heads = omega (arith, test) in
    let split = item_first heads i h below c.head-item.is in
    let left = subst (AreLeft bytes) split c.loop-head.invariant.left in
    record {
      left = left_next bytes h (drop (i + 1) heads) all left;
      coded = coded_more c.args.share bytes heads i c.loop-head.coded.items
          c.loop-head.invariant.coded h _ c.push.new.list.items split c.in_ok-push.ensures.items
          (record {
            starts = c.in_ok-starts.ensures.starts;
            places = c.in_ok-places.ensures;
            streams = λ mcus pads file.
                c.in_ok-starts.ensures.streams mcus pads c.in_ok-starts.starts.trailer file;
          });
    }

pub returns-clause-coded : goal.returns-clause-coded
returns-clause-coded g c =
    let heads = c.args.heads.now in
    let test = c.loop-head-test.false in
    let past : length heads ≤ c.loop-head.head-index = omega (arith, test) in
    coded_all c.args.share c.args.bytes.now heads c.loop-head.head-index c.loop-head.coded.items
    c.loop-head.invariant.coded past
