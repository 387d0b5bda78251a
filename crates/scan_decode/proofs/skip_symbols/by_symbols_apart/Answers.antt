use Rattle.std.proofs.Common.{◌≡◌, ℕ, List, ℤ, false, Result, Err, IfOk, IfErr, sym, subst}
use Rattle.bit_list.specs.Units.{Cursor, Reading}
use Rattle.scan_spec.specs.declared.refusal.ScanRefusal.{ScanRefusal as Refusal}
use Rattle.scan_decode.specs.SkipWords.{IsSkipped}
use Rattle.scan_decode.proofs.skip_symbols.by_symbols_apart.Goals as goal

pub returns-clause-ok : goal.returns-clause-ok
returns-clause-ok c =
    let by = c.by_symbols_of-result in
    subst (λ (r : Reading). IfOk by.result.0 (λ (next : ℕ). (whole : Result (List ℤ × Cursor) Refusal) → IsSkipped whole c.args.codes.now c.args.input.now.bytes c.args.index false c.args.input.now.cursor → IsSkipped whole c.args.codes.now c.args.input.now.bytes next false r.cursor))
    (sym c.copied-2.ensures)
    (subst (λ (b : Reading). IfOk by.result.0 (λ (next : ℕ). (whole : Result (List ℤ × Cursor) Refusal) → IsSkipped whole c.args.codes.now b.bytes c.args.index false b.cursor → IsSkipped whole c.args.codes.now b.bytes next false by.result.1.cursor)) c.copied.ensures by.ensures.ok)

pub returns-clause-err : goal.returns-clause-err
returns-clause-err c =
    let by = c.by_symbols_of-result in
    subst (λ (b : Reading). IfErr by.result.0 (λ (refusal : Refusal). (whole : Result (List ℤ × Cursor) Refusal) → IsSkipped whole c.args.codes.now b.bytes c.args.index false b.cursor → whole ≡ Err refusal)) c.copied.ensures by.ensures.err
