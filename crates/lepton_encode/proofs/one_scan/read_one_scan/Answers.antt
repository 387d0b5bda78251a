use Rattle.std.proofs.Common.{rules, ◌≡◌, ◌≤◌, ◌+◌, ◌-◌, ◌∙◌, ℕ, length, refl, ap, arith}
use Rattle.std.specs.Prelude.{Err}
use Rattle.std.specs.List.{AllByRecursion}
use Rattle.std.proofs.lemmas.Option.{slice_get_read}
use Rattle.std.proofs.lemmas.Result.{err_from_is_err_and}
use Rattle.bit_list.specs.Bits.{IsByte}
use Rattle.lepton_encode.specs.declared.error.OneScanError.TheVariants.{Header, Scan}
use Rattle.lepton_encode.specs.Errors.{as_one_scan_error, one_scan_error_of}
use Rattle.lepton_encode.proofs.FaultsFound.{header_as, one_scan_found, scan_as}
use Rattle.lepton_encode.proofs.HeadsFound.{are_bytes, heads_some, one_accepted}
use Rattle.lepton_encode.proofs.SeveralRead.{last_can, last_refused, several_read}
use Rattle.lepton_encode.proofs.one_scan.read_one_scan.Goals as goal

pub index-last-requires : goal.index-last-requires
index-last-requires c =
    let some = heads_some c.args.bytes.now c.in_ok-heads.heads.items c.in_ok-heads.ensures.heads in
    let len : c.len-count.result ≡ length c.in_ok-heads.heads.items = search rules in
    omega (arith, some, len)

pub returns-then-count-eq1-clause-accepted : goal.returns-then-count-eq1-clause-accepted
returns-then-count-eq1-clause-accepted c =
    let bytes = c.args.bytes.now in
    let all : AllByRecursion IsByte bytes =
    are_bytes bytes (λ i. let h = c.type_inv.bytes i in search rules) in
    let heads = c.in_ok-heads.heads.items in
    let some = heads_some bytes heads c.in_ok-heads.ensures.heads in
    let len : c.len-count.result ≡ length heads = search rules in
    let here = slice_get_read heads (length heads) (c.len-count.result - 1) c.index-last.result.now refl
    (omega (arith, some, len)) c.index-last.ensures in
    one_accepted bytes heads (c.len-count.result - 1) c.index-last.result.now all
    c.in_ok-heads.ensures.heads (search rules) here

pub returns-in_err-heads-clause-header : goal.returns-in_err-heads-clause-header
returns-in_err-heads-clause-header c =
    let p = err_from_is_err_and c.from_residual.result
    c.from_residual.ensures.1 in
    rw (p.1, p.2) (λ refusal is.
    let header : as_one_scan_error c.in_err-heads.field-0.0 ≡ Header refusal = cc in
    c.in_err-heads.ensures.header refusal
    (ap (λ error. Err error) (header_as c.in_err-heads.field-0.0 refusal header)))

pub returns-in_err-heads-clause-scan : goal.returns-in_err-heads-clause-scan
returns-in_err-heads-clause-scan c =
    let p = err_from_is_err_and c.from_residual.result
    c.from_residual.ensures.1 in
    rw (p.1, p.2) (λ refusal is.
    let scan : as_one_scan_error c.in_err-heads.field-0.0 ≡ Scan refusal = cc in
    c.in_err-heads.ensures.scan refusal
    (ap (λ error. Err error) (scan_as c.in_err-heads.field-0.0 refusal scan)))

pub find_starts-requires-clause-plan : goal.find_starts-requires-clause-plan
find_starts-requires-clause-plan c =
    let bytes = c.args.bytes.now in
    let all : AllByRecursion IsByte bytes =
    are_bytes bytes (λ i. let h = c.type_inv.bytes i in search rules) in
    let heads = c.in_ok-heads.heads.items in
    let some = heads_some bytes heads c.in_ok-heads.ensures.heads in
    let len : c.len-count.result ≡ length heads = search rules in
    let last : c.len-count.result - 1 + 1 ≡ length heads = omega (arith, some, len) in
    let here = slice_get_read heads (length heads) (c.len-count.result - 1) c.index-last.result.now refl
    (omega (arith, some, len)) c.index-last.ensures in
    last_can bytes heads (c.len-count.result - 1) c.index-last.result.now all c.in_ok-heads.ensures.heads
    here last

pub returns-in_err-find_starts-clause-scan : goal.returns-in_err-find_starts-clause-scan
returns-in_err-find_starts-clause-scan c =
    let bytes = c.args.bytes.now in
    let all : AllByRecursion IsByte bytes =
    are_bytes bytes (λ i. let h = c.type_inv.bytes i in search rules) in
    let heads = c.in_ok-heads.heads.items in
    let some = heads_some bytes heads c.in_ok-heads.ensures.heads in
    let len : c.len-count.result ≡ length heads = search rules in
    let last : c.len-count.result - 1 + 1 ≡ length heads = omega (arith, some, len) in
    let here = slice_get_read heads (length heads) (c.len-count.result - 1) c.index-last.result.now refl
    (omega (arith, some, len)) c.index-last.ensures in
    let p = err_from_is_err_and c.from_residual-in_err-find_starts.result
    c.from_residual-in_err-find_starts.ensures.1 in
    rw (p.1, p.2) (λ refusal is.
    let scan : one_scan_error_of c.in_err-find_starts.field-0.0 ≡ Scan refusal = cc in
    let cause = ap (λ error. Err error)
    (one_scan_found c.in_err-find_starts.field-0.0 refusal scan) in
    last_refused bytes heads (c.len-count.result - 1) c.index-last.result.now all
    c.in_ok-heads.ensures.heads here last refusal (c.in_err-find_starts.ensures.refused refusal cause))

not_one : (n : ℕ) → 1 ≤ n → (n ≡ 1 → ⊥) → 2 ≤ n
not_one n some other = omega (arith, some, other)

pub returns-clause-many : goal.returns-clause-many
returns-clause-many c = λ many.
    let bytes = c.args.bytes.now in
    let all : AllByRecursion IsByte bytes =
    are_bytes bytes (λ i. let h = c.type_inv.bytes i in search rules) in
    let heads = c.in_ok-heads.heads.items in
    let some = heads_some bytes heads c.in_ok-heads.ensures.heads in
    let len : c.len-count.result ≡ length heads = search rules in
    let last : c.len-count.result - 1 + 1 ≡ length heads = omega (arith, some, len) in
    let here = slice_get_read heads (length heads) (c.len-count.result - 1) c.index-last.result.now refl
    (omega (arith, some, len)) c.index-last.ensures in
    several_read bytes heads (c.len-count.result - 1) c.index-last.result.now all
    c.in_ok-heads.ensures.heads here last c.in_ok-find_starts.field-0
    c.in_ok-find_starts.ensures.starts (not_one (length heads) some
    (λ one. c.if-count-eq1.false (len ∙ one)))
