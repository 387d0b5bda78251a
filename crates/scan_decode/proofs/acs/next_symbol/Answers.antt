use Rattle.std.proofs.Common.{◌≡◌, List, ℤ, Result, Err, IfOk, IfErr, subst}
use Rattle.bit_list.specs.Units.{Cursor, Reading}
use Rattle.scan_spec.specs.declared.refusal.ScanRefusal.{ScanRefusal as Refusal}
use Rattle.scan_decode.specs.BlockSteps.{IsGoing}
use Rattle.scan_decode.specs.declared.acs.At.{At}
use Rattle.scan_decode.proofs.acs.next_symbol.Goals as goal

pub returns-clause-ok : goal.returns-clause-ok
returns-clause-ok c =
    let at = c.args.at in
    subst (λ (b : Reading). IfOk c.go_on.result (λ (next : At). (whole : Result (List ℤ × Cursor) Refusal) → IsGoing (λ block. c.args.out.now ≡ block) whole c.args.codes.now b.bytes at.index at.loose b.cursor
    → IsGoing (λ block. c.go_on.new.out ≡ block) whole c.args.codes.now b.bytes next.index next.loose c.go_on.new.input.cursor)) c.in_default.ensures.none.0
    (subst (λ (out : List ℤ). IfOk c.go_on.result (λ (next : At). (whole : Result (List ℤ × Cursor) Refusal) → IsGoing (λ block. out ≡ block) whole c.args.codes.now c.by_ten_bits.new.input.bytes at.index at.loose c.by_ten_bits.new.input.cursor
    → IsGoing (λ block. c.go_on.new.out ≡ block) whole c.args.codes.now c.by_ten_bits.new.input.bytes next.index next.loose c.go_on.new.input.cursor)) c.in_default.ensures.none.1 c.go_on.ensures.ok)

pub returns-clause-err : goal.returns-clause-err
returns-clause-err c =
    let at = c.args.at in
    subst (λ (b : Reading). IfErr c.go_on.result (λ (refusal : Refusal). (whole : Result (List ℤ × Cursor) Refusal) → IsGoing (λ block. c.args.out.now ≡ block) whole c.args.codes.now b.bytes at.index at.loose b.cursor → whole ≡ Err refusal)) c.in_default.ensures.none.0
    (subst (λ (out : List ℤ). IfErr c.go_on.result (λ (refusal : Refusal). (whole : Result (List ℤ × Cursor) Refusal) → IsGoing (λ block. out ≡ block) whole c.args.codes.now c.by_ten_bits.new.input.bytes at.index at.loose c.by_ten_bits.new.input.cursor → whole ≡ Err refusal)) c.in_default.ensures.none.1 c.go_on.ensures.err)
