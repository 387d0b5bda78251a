use Rattle.std.proofs.Common.{rules, ◌<◌, unsigned_abs, get_or, ◌+◌, ◌-◌, false, ◌≡◌, ◌∙◌, ℕ, List, ℤ, set, sym, ap, subst, Ok, Err, arith}
use Rattle.std.proofs.lemmas.Result.{err_from_is_err_and}
use Rattle.scan_spec.specs.ScanReading.{extended_at}
use Rattle.scan_spec.specs.ScanSymbols.{Past, Loose, Unknown}
use Rattle.scan_spec.specs.declared.refusal.ScanRefusal.TheVariants as refusals
use Rattle.coef_block.specs.Zigzag.{zigzag}
use Rattle.scan_decode.specs.BlockSteps.{Going}
use Rattle.scan_decode.proofs.BlockStepLemmas.{no_symbol, no_value, value_comes, value_small, value_some, coefficient, cast_kept, sixteen_more, end_comes, said}
use Rattle.coef_block.proofs.Positions.{zigzag-above}
use Rattle.scan_decode.proofs.acs.go_on.Goals as goal

pub returns-in_err-symbol-clause-err : goal.returns-in_err-symbol-clause-err
returns-in_err-symbol-clause-err g c =
    let p = err_from_is_err_and c.from_residual.result c.from_residual.ensures.1 in
    rw (p.1, p.2) (λ whole going. no_symbol whole c.args.codes.now c.args.input.now.bytes going.0 c.args.at.index c.args.at.loose c.args.input.now.cursor _ c.requires.left c.in_err-symbol.ensures.is going.2)

pub returns-in_err-value-in-Value-clause-err : goal.returns-in_err-value-in-Value-clause-err
returns-in_err-value-in-Value-clause-err g c =
    let p = err_from_is_err_and c.from_residual-in_err-value-in-Value.result c.from_residual-in_err-value-in-Value.ensures.1 in
    rw (p.1, p.2) (λ whole going. no_value whole c.args.codes.now c.args.input.now.bytes going.0 c.args.at.index c.args.at.loose c.args.input.now.cursor c.symbol.new.input.cursor c.in_ok-symbol.symbol c.in-Value.zeros c.in-Value.size _ c.requires.left c.in_ok-symbol.ensures.is c.in-Value.ensures
    (subst (λ (bytes : List ℕ). Err c.in_err-value-in-Value.field-0.0 ≡ extended_at c.in-Value.size bytes c.symbol.new.input.cursor) c.symbol.ensures.bytes c.in_err-value-in-Value.ensures.is) going.2)

pub put-requires-clause-coefficient : goal.put-requires-clause-coefficient
put-requires-clause-coefficient g c =
    let v = c.in_ok-value-in-Value.value in
    let small = value_small c.in-Value.zeros c.in-Value.size (64 - c.args.at.index) c.in_ok-symbol.symbol c.args.at.loose v c.in-Value.ensures c.in_ok-value-in-Value.ensures.small in
    let within = c.args.at.index + c.from.result in
    coefficient (get_or zigzag within 0) v (zigzag-above within (search rules) (omega (arith, c.requires.some))) small

pub put-requires-clause-some : goal.put-requires-clause-some
put-requires-clause-some g c =
    let v = c.in_ok-value-in-Value.value in
    let small = value_small c.in-Value.zeros c.in-Value.size (64 - c.args.at.index) c.in_ok-symbol.symbol c.args.at.loose v c.in-Value.ensures c.in_ok-value-in-Value.ensures.small in
    let some = value_some c.in-Value.zeros c.in-Value.size (64 - c.args.at.index) c.in_ok-symbol.symbol c.args.at.loose v c.symbol.new.input.bytes c.symbol.new.input.cursor c.extended.new.input.cursor c.in-Value.ensures c.in_ok-value-in-Value.ensures.is in
    subst (λ (z : ℤ). 0 < unsigned_abs z) (sym (cast_kept v small)) some

pub returns-in_ok-value-in-Value-clause-ok : goal.returns-in_ok-value-in-Value-clause-ok
returns-in_ok-value-in-Value-clause-ok g c = λ whole going.
    let v = c.in_ok-value-in-Value.value in
    let small = value_small c.in-Value.zeros c.in-Value.size (64 - c.args.at.index) c.in_ok-symbol.symbol c.args.at.loose v c.in-Value.ensures c.in_ok-value-in-Value.ensures.small in
    let there = subst (λ (bytes : List ℕ). Ok (v, c.extended.new.input.cursor) ≡ extended_at c.in-Value.size bytes c.symbol.new.input.cursor) c.symbol.ensures.bytes c.in_ok-value-in-Value.ensures.is in
    let made = value_comes whole c.args.codes.now c.args.input.now.bytes going.0 c.args.at.index c.args.at.loose c.args.input.now.cursor c.symbol.new.input.cursor c.extended.new.input.cursor c.in_ok-symbol.symbol c.in-Value.zeros c.in-Value.size v
    c.requires.left c.in_ok-symbol.ensures.is c.in-Value.ensures there going.2 in
    let zeros = sym c.from.ensures in
    let kept = sym (cast_kept v small) in
    let moved = subst (λ (n : ℕ). Going whole c.args.codes.now c.args.input.now.bytes (set going.0 (get_or zigzag (c.args.at.index + n) 0) v) (c.args.at.index + n + 1) false c.extended.new.input.cursor) zeros made in (
      _,
      c.put.ensures going.0 going.1,
      subst (λ (z : ℤ). Going whole c.args.codes.now c.args.input.now.bytes (set going.0 (get_or zigzag (c.args.at.index + c.from.result) 0) z) (c.args.at.index + c.from.result + 1) false c.extended.new.input.cursor) kept moved,
    )

pub returns-in-Sixteen-clause-ok : goal.returns-in-Sixteen-clause-ok
returns-in-Sixteen-clause-ok g c = λ whole going.
    (going.0, going.1, sixteen_more whole c.args.codes.now c.args.input.now.bytes going.0 c.args.at.index c.args.at.loose c.args.input.now.cursor c.symbol.new.input.cursor c.in_ok-symbol.symbol c.requires.left c.in_ok-symbol.ensures.is c.in-Sixteen.ensures going.2)

pub returns-in-End-clause-ok : goal.returns-in-End-clause-ok
returns-in-End-clause-ok g c = λ whole going.
    (going.0, going.1, end_comes whole c.args.codes.now c.args.input.now.bytes going.0 c.args.at.index c.args.at.loose c.args.input.now.cursor c.symbol.new.input.cursor c.in_ok-symbol.symbol c.requires.left c.in_ok-symbol.ensures.is c.in-End.ensures going.2)

pub returns-in-Past-clause-err : goal.returns-in-Past-clause-err
returns-in-Past-clause-err g c = λ whole going.
    let s = said whole c.args.codes.now c.args.input.now.bytes going.0 c.args.at.index c.args.at.loose c.args.input.now.cursor c.symbol.new.input.cursor c.in_ok-symbol.symbol Past c.requires.left c.in_ok-symbol.ensures.is c.in-Past.ensures going.2 in
    s.rest ∙ ap (λ (n : ℕ). Err (refusals.RunPast n)) (sym c.place.ensures)

pub returns-in-Loose-clause-err : goal.returns-in-Loose-clause-err
returns-in-Loose-clause-err g c = λ whole going.
    let s = said whole c.args.codes.now c.args.input.now.bytes going.0 c.args.at.index c.args.at.loose c.args.input.now.cursor c.symbol.new.input.cursor c.in_ok-symbol.symbol Loose c.requires.left c.in_ok-symbol.ensures.is c.in-Loose.ensures going.2 in
    s.rest ∙ ap (λ (n : ℕ). Err (refusals.LooseZeros n)) (sym c.place-in-Loose.ensures)

pub returns-in-Unknown-clause-err : goal.returns-in-Unknown-clause-err
returns-in-Unknown-clause-err g c = λ whole going.
    let s = said whole c.args.codes.now c.args.input.now.bytes going.0 c.args.at.index c.args.at.loose c.args.input.now.cursor c.symbol.new.input.cursor c.in_ok-symbol.symbol Unknown c.requires.left c.in_ok-symbol.ensures.is c.in-Unknown.ensures going.2 in
    s.rest ∙ ap (λ (n : ℕ). Err (refusals.SymbolBad n)) (sym c.place-in-Unknown.ensures)
