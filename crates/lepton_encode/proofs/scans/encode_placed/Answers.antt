use Rattle.std.proofs.Common.{rules, ◌≡◌, replicate, sym, ap, subst}
use Rattle.std.specs.Prelude.{Err}
use Rattle.std.specs.List.{AllByRecursion}
use Rattle.std.proofs.lemmas.Result.{err_from_is_err_and}
use Rattle.bit_list.specs.Bits.{IsByte}
use Rattle.jpeg_marker.specs.FirstWalks.{opening_walk}
use Rattle.box_format.specs.declared.version.Version.TheVariants.{Fifth}
use Rattle.container_spec.specs.ScansFiles.{IsContainerOf}
use Rattle.lepton_encode.specs.FileHeads.{AreHeads}
use Rattle.lepton_encode.specs.ScansMade.{CanHold}
use Rattle.lepton_encode.specs.Errors.{as_one_scan_error}
use Rattle.lepton_encode.specs.declared.error.OneScanError.TheVariants.{Header, Scan}
use Rattle.lepton_encode.proofs.FaultsFound.{header_as, scan_as}
use Rattle.lepton_encode.proofs.HeadsFound.{are_bytes, one_head}
use Rattle.lepton_encode.proofs.ScansContained.{can_place}
use Rattle.lepton_encode.proofs.scans.encode_placed.Goals as goal

pub encode_heads-requires-clause-heads : goal.encode_heads-requires-clause-heads
encode_heads-requires-clause-heads g c =
    let bytes = c.args.bytes.now in
    let all : AllByRecursion IsByte bytes =
    are_bytes bytes (λ i. let h = c.type_inv.bytes i in search rules) in
    subst (AreHeads opening_walk bytes) (sym c.from_ref-heads.ensures.value)
    (one_head bytes c.in_ok-plan.plan all c.in_ok-plan.ensures.accepted)

pub encode_heads-requires-clause-version : goal.encode_heads-requires-clause-version
encode_heads-requires-clause-version g c =
    subst (λ n. CanHold Fifth n c.args.segments) (sym c.from_ref-heads.ensures.len)
    (can_place c.args.segments c.requires.few)

pub returns-clause-made : goal.returns-clause-made
returns-clause-made g c =
    subst (λ n. IsContainerOf Fifth (replicate n c.args.segments) c.in_ok-made.made.items c.args.bytes.now)
    c.from_ref-heads.ensures.len c.in_ok-made.ensures.made

pub returns-in_err-made-clause-header : goal.returns-in_err-made-clause-header
returns-in_err-made-clause-header g c =
    let p = err_from_is_err_and c.from_residual-in_err-made.result
    c.from_residual-in_err-made.ensures.1 in
    rw (p.1, p.2) (λ refusal is.
    let header : as_one_scan_error c.in_err-made.field-0.0 ≡ Header refusal = cc in
    absurd (c.in_err-made.ensures.header refusal
    (ap (λ error. Err error) (header_as c.in_err-made.field-0.0 refusal header))))

pub returns-in_err-made-clause-scan : goal.returns-in_err-made-clause-scan
returns-in_err-made-clause-scan g c =
    let p = err_from_is_err_and c.from_residual-in_err-made.result
    c.from_residual-in_err-made.ensures.1 in
    rw (p.1, p.2) (λ refusal is.
    let scan : as_one_scan_error c.in_err-made.field-0.0 ≡ Scan refusal = cc in
    c.in_err-made.ensures.scan refusal
    (ap (λ error. Err error) (scan_as c.in_err-made.field-0.0 refusal scan)))
