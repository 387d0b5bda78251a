use Rattle.std.proofs.Common.{rules, ◌≡◌, ap, Err}
use Rattle.std.proofs.lemmas.Result.{err_from_is_err_and}
use Rattle.jpeg_marker.specs.FirstWalks.{only_walk}
use Rattle.jpeg_marker.proofs.HeadersTaken.{can_scan, none_known}
use Rattle.bool_coder.proofs.FirstBits.{all_bytes}
use Rattle.container_spec.proofs.FilesRefused.{scan_alone}
use Rattle.chunk_cut.specs.declared.error.CutError.TheVariants.{Header, Scan, ManyScans}
use Rattle.chunk_cut.specs.Errors.{as_cut_error, error_of}
use Rattle.chunk_cut.proofs.FaultsFound.{header_as, many_as, scan_as, scan_found}
use Rattle.chunk_cut.proofs.cutter.ChunkCutter.prepare.Goals as goal

pub find_rows-requires : goal.find_rows-requires
find_rows-requires c = record {
  plan = can_scan only_walk c.args.bytes.now c.in_ok-plan.plan
      (all_bytes c.args.bytes.now (λ i. let h = c.type_inv.bytes i in search rules)) none_known
      c.in_ok-plan.ensures.accepted;
}

pub returns-in_err-starts-clause-scan : goal.returns-in_err-starts-clause-scan
returns-in_err-starts-clause-scan c =
    let p = err_from_is_err_and c.from_residual-in_err-starts.result
    c.from_residual-in_err-starts.ensures.1 in
    rw (p.1, p.2) (λ refusal is.
    let scan : error_of c.in_err-starts.field-0.0 ≡ Scan refusal = cc in
    let cause = ap (λ error. Err error) (scan_found c.in_err-starts.field-0.0 refusal scan) in
    scan_alone c.args.bytes.now c.in_ok-plan.plan refusal c.in_ok-plan.ensures.accepted
    (c.in_err-starts.ensures.refused refusal cause))

pub returns-in_err-plan-clause-header : goal.returns-in_err-plan-clause-header
returns-in_err-plan-clause-header c =
    let p = err_from_is_err_and c.from_residual.result c.from_residual.ensures.1 in
    rw (p.1, p.2) (λ refusal is.
    let header : as_cut_error c.in_err-plan.field-0.0 ≡ Header refusal = cc in
    c.in_err-plan.ensures.header refusal
    (ap (λ error. Err error) (header_as c.in_err-plan.field-0.0 refusal header)))

pub returns-in_err-plan-clause-scan : goal.returns-in_err-plan-clause-scan
returns-in_err-plan-clause-scan c =
    let p = err_from_is_err_and c.from_residual.result c.from_residual.ensures.1 in
    rw (p.1, p.2) (λ refusal is.
    let scan : as_cut_error c.in_err-plan.field-0.0 ≡ Scan refusal = cc in
    c.in_err-plan.ensures.scan refusal
    (ap (λ error. Err error) (scan_as c.in_err-plan.field-0.0 refusal scan)))

pub returns-in_err-plan-clause-many : goal.returns-in_err-plan-clause-many
returns-in_err-plan-clause-many c =
    let p = err_from_is_err_and c.from_residual.result c.from_residual.ensures.1 in
    rw (p.1, p.2) (λ is.
    let many : as_cut_error c.in_err-plan.field-0.0 ≡ ManyScans = cc in
    c.in_err-plan.ensures.many
    (ap (λ error. Err error) (many_as c.in_err-plan.field-0.0 many)))

pub invariant_of-result : goal.invariant_of-result
invariant_of-result c = record {
  bytes = all_bytes c.args.bytes.now (λ i. search rules);
  few = c.requires.length;
  plan = c.in_ok-plan.ensures.accepted;
  starts = c.in_ok-starts.ensures.starts;
  rows = c.in_ok-starts.ensures.rows;
}
