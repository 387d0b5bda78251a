use Rattle.std.proofs.Common.{◌≡◌, ℕ, List, ℤ, false, Result, Err, IfOk, IfErr, ◌∙◌, subst}
use Rattle.bit_list.specs.Units.{Cursor, Reading}
use Rattle.scan_spec.specs.declared.refusal.ScanRefusal.{ScanRefusal as Refusal}
use Rattle.scan_decode.specs.SkipWords.{GoesOn, IsSkipped}
use Rattle.scan_decode.proofs.skip.skip_symbols.Goals as goal

pub returns-in-Some-by_sixteen_bits-clause-ok : goal.returns-in-Some-by_sixteen_bits-clause-ok
returns-in-Some-by_sixteen_bits-clause-ok c =
    subst (λ (b : Reading). GoesOn c.args.codes.now b.bytes c.args.index b.cursor c.in-Some-by_sixteen_bits.next c.by_sixteen_bits.new.input.cursor) c.in_default.ensures.none c.in-Some-by_sixteen_bits.ensures.is

pub returns-clause-ok : goal.returns-clause-ok
returns-clause-ok c =
    subst (λ (b : Reading). IfOk c.by_symbols_apart.result (λ (next : ℕ). GoesOn c.args.codes.now b.bytes c.args.index b.cursor next c.by_symbols_apart.new.input.cursor))
    (c.in_default-by_sixteen_bits.ensures.none ∙ c.in_default.ensures.none) c.by_symbols_apart.ensures.ok

pub returns-clause-err : goal.returns-clause-err
returns-clause-err c =
    subst (λ (b : Reading). IfErr c.by_symbols_apart.result (λ (refusal : Refusal). (whole : Result (List ℤ × Cursor) Refusal) → IsSkipped whole c.args.codes.now b.bytes c.args.index false b.cursor → whole ≡ Err refusal))
    (c.in_default-by_sixteen_bits.ensures.none ∙ c.in_default.ensures.none) c.by_symbols_apart.ensures.err
