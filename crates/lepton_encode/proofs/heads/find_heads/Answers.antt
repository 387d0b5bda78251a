use Rattle.std.proofs.Common.{rules, ◌≡◌, ◌∙◌, true, sym, ap, arith, List, subst, length}
use Rattle.std.specs.Prelude.{Err}
use Rattle.std.specs.List.{AllByRecursion}
use Rattle.std.proofs.lemmas.Result.{err_from_is_err_and}
use Rattle.bit_list.specs.Bits.{IsByte}
use Rattle.jpeg_marker.specs.FirstWalks.{opening_walk}
use Rattle.scan_spec.specs.FileParts.{is_last}
use Rattle.lepton_encode.specs.FileHeads.{AreHeads}
use Rattle.lepton_encode.specs.declared.error.EncodeError.TheVariants.{Header, Scan}
use Rattle.lepton_encode.specs.declared.heads.Head.{Head}
use Rattle.lepton_encode.proofs.HeadsFound.{are_bytes, AreBefore, none_before, few_before, before_next, heads_are, header_refused, scan_refused, one_longer}
use Rattle.lepton_encode.proofs.heads.find_heads.Goals as goal

pub headers-init : goal.headers-init
headers-init c =
    none_before c.args.bytes.now c.in-Ok.plan c.in_ok-heads.heads.items
    c.in_ok-heads.ensures.items c.in-Ok.ensures.accepted

pub returns-in_err-go_on-clause-header : goal.returns-in_err-go_on-clause-header
returns-in_err-go_on-clause-header c =
    let all : AllByRecursion IsByte c.args.bytes.now =
    are_bytes c.args.bytes.now (λ i. let h = c.type_inv.bytes i in search rules) in
    let more = sym c.is_last.ensures ∙ c.headers-test.true in
    let p = err_from_is_err_and c.from_residual-in_err-go_on.result
    c.from_residual-in_err-go_on.ensures.1 in
    rw (p.1, p.2) (λ refusal is.
    let cause : c.in_err-go_on.field-0.0 ≡ Header refusal = cc in
    header_refused c.args.bytes.now c.headers.heads.items c.headers.head all c.headers.invariant
    refusal more (c.in_err-go_on.ensures.header refusal (ap (λ error. Err error) cause)))

pub returns-in_err-go_on-clause-scan : goal.returns-in_err-go_on-clause-scan
returns-in_err-go_on-clause-scan c =
    let all : AllByRecursion IsByte c.args.bytes.now =
    are_bytes c.args.bytes.now (λ i. let h = c.type_inv.bytes i in search rules) in
    let p = err_from_is_err_and c.from_residual-in_err-go_on.result
    c.from_residual-in_err-go_on.ensures.1 in
    rw (p.1, p.2) (λ refusal is.
    let cause : c.in_err-go_on.field-0.0 ≡ Scan refusal = cc in
    scan_refused c.args.bytes.now c.headers.heads.items c.headers.head all c.headers.invariant
    refusal (c.in_err-go_on.ensures.scan refusal (ap (λ error. Err error) cause)))

pub headers-smaller : goal.headers-smaller
headers-smaller c =
    let all : AllByRecursion IsByte c.args.bytes.now =
    are_bytes c.args.bytes.now (λ i. let h = c.type_inv.bytes i in search rules) in
    let few = few_before c.args.bytes.now c.headers.heads.items c.headers.head all
    c.headers.invariant in
    let long = ap (λ (l : List Head). length l) c.in_ok-keep.ensures
    ∙ one_longer c.headers.heads.items c.headers.head in
    omega (arith, few, long)

pub headers-preserved : goal.headers-preserved
headers-preserved c =
    let all : AllByRecursion IsByte c.args.bytes.now =
    are_bytes c.args.bytes.now (λ i. let h = c.type_inv.bytes i in search rules) in
    let more = sym c.is_last.ensures ∙ c.headers-test.true in
    subst (λ (l : List Head). AreBefore c.args.bytes.now l c.go_on.new.head)
    (sym c.in_ok-keep.ensures)
    (before_next c.args.bytes.now c.headers.heads.items c.headers.head all c.headers.invariant
    c.go_on.new.head more c.in_ok-go_on.ensures.next)

pub returns-clause-heads : goal.returns-clause-heads
returns-clause-heads c =
    let all : AllByRecursion IsByte c.args.bytes.now =
    are_bytes c.args.bytes.now (λ i. let h = c.type_inv.bytes i in search rules) in
    let last : is_last c.headers.head.plan ≡ true =
    sym c.is_last.ensures ∙ c.headers-test.false in
    subst (AreHeads opening_walk c.args.bytes.now) (sym c.in_ok-keep-2.ensures)
    (heads_are c.args.bytes.now c.headers.heads.items c.headers.head all c.headers.invariant last)

pub returns-clause-few : goal.returns-clause-few
returns-clause-few c =
    let all : AllByRecursion IsByte c.args.bytes.now =
    are_bytes c.args.bytes.now (λ i. let h = c.type_inv.bytes i in search rules) in
    let few = few_before c.args.bytes.now c.headers.heads.items c.headers.head all
    c.headers.invariant in
    let long = ap (λ (l : List Head). length l) c.in_ok-keep-2.ensures
    ∙ one_longer c.headers.heads.items c.headers.head in
    omega (arith, few, long)
