use Rattle.std.proofs.Common.{rules, ◌≡◌, ap, arith}
use Rattle.std.specs.Prelude.{Err}
use Rattle.std.specs.List.{AllByRecursion}
use Rattle.std.proofs.lemmas.Result.{err_from_is_err_and}
use Rattle.bit_list.specs.Bits.{IsByte}
use Rattle.lepton_encode.specs.declared.error.EncodeError.TheVariants.{Scan}
use Rattle.lepton_encode.specs.Errors.{error_of}
use Rattle.lepton_encode.proofs.FaultsFound.{scan_found}
use Rattle.lepton_encode.proofs.HeadsFound.{are_bytes, can, can_next, follows}
use Rattle.lepton_encode.proofs.heads.go_on.Goals as goal

pub find_starts-requires-clause-plan : goal.find_starts-requires-clause-plan
find_starts-requires-clause-plan c =
    let all : AllByRecursion IsByte c.args.bytes.now =
    are_bytes c.args.bytes.now (λ i. let h = c.type_inv.bytes i in search rules) in
    can c.requires.head.0 c.args.bytes.now c.args.head.now all c.requires.head.1

pub returns-in_err-starts-clause-scan : goal.returns-in_err-starts-clause-scan
returns-in_err-starts-clause-scan c =
    let p = err_from_is_err_and c.from_residual.result c.from_residual.ensures.1 in
    rw (p.1, p.2) (λ refusal is.
    let scan : error_of c.in_err-starts.field-0.0 ≡ Scan refusal = cc in
    let cause = ap (λ error. Err error) (scan_found c.in_err-starts.field-0.0 refusal scan) in
    c.in_err-starts.ensures.refused refusal cause)

pub at-head-requires : goal.at-head-requires
at-head-requires c =
    let all : AllByRecursion IsByte c.args.bytes.now =
    are_bytes c.args.bytes.now (λ i. let h = c.type_inv.bytes i in search rules) in
    let within = (can_next c.requires.head.0 c.args.bytes.now c.args.head.now all c.requires.head.1 1
    c.in_ok-starts.starts c.in_ok-starts.ensures.starts c.trailer-place.result
    c.trailer-place.ensures c.in-Ok.plan c.in-Ok.ensures.accepted).within in
    let short = c.requires.length in
    omega (arith, within, short)

pub returns-in-Ok-clause-next : goal.returns-in-Ok-clause-next
returns-in-Ok-clause-next c =
    let all : AllByRecursion IsByte c.args.bytes.now =
    are_bytes c.args.bytes.now (λ i. let h = c.type_inv.bytes i in search rules) in
    follows c.requires.head.0 c.args.bytes.now c.args.head.now all c.requires.head.1 1
    c.in_ok-starts.starts c.in_ok-starts.ensures.starts c.trailer-place.result
    c.trailer-place.ensures c.in-Ok.plan c.in-Ok.ensures.accepted c.at-head.result c.at-head.ensures
