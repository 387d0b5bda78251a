use Rattle.std.proofs.Common.{◌++◌, List, Bool, Ok, Err, unsigned_abs, sym, ap, ◌∙◌, subst, append_assoc, arith}
use Rattle.std.proofs.lemmas.Int.{to_z-of_z}
use Rattle.std.proofs.lemmas.Result.{err_from_is_err_and}
use Rattle.std.specs.Int.{w32}
use mir.Val.{to_z, of_z}
use Rattle.bit_list.specs.Bits.{low_bits}
use Rattle.scan_spec.specs.ValueBits.{mag}
use Rattle.scan_spec.specs.BlockBits.{Text, then_text, word_text}
use Rattle.scan_spec.specs.PlainWriting.{IsWritten}
use Rattle.scan_spec.proofs.Texts.{goes_start, goes_stop}
use Rattle.scan_spec.proofs.ValueLemmas.{size_is}
use Rattle.scan_spec.proofs.Words.{value_parts}
use Rattle.scan_spec.proofs.plain.put_value.Goals as goal

pub returns-in_err-put_word : goal.returns-in_err-put_word
returns-in_err-put_word c =
    let word = word_text c.args.codes.now c.args.symbol in
    let rest : Text = Ok (mag c.args.value) in
    let whole = then_text word rest in
    let old = c.args.bits.now.items in
    let p = err_from_is_err_and c.from_residual.result c.from_residual.ensures.1 in
    rw (p.1, p.2) (subst (λ (t : Text). IsWritten (Err c.in_err-put_word.field-0.0) old c.put_word.new.bits.items t) (sym (value_parts c.args.codes.now c.args.symbol c.args.value))
    (goes_stop whole old old c.put_word.new.bits.items word rest c.in_err-put_word.field-0.0 (goes_start whole old) c.in_err-put_word.ensures))

pub value_bits-requires-clause-size : goal.value_bits-requires-clause-size
value_bits-requires-clause-size c = size_is (to_z w32 (of_z w32 c.args.value)) c.size-size.result c.size-size.ensures.below c.size-size.ensures.least

pub put_bits-requires : goal.put_bits-requires
put_bits-requires c =
    let same = ap unsigned_abs (to_z-of_z w32 c.args.value c.ranges.value) in
    omega (arith, c.size-size.ensures.no_more 11 (omega (arith, same)))

pub returns : goal.returns
returns c =
    let word = c.in_ok-put_word.ensures in
    let old = c.args.bits.now.items in
    let bits = ap (low_bits c.size-size.result) c.from.ensures ∙ sym c.value_bits.ensures.bits ∙ ap mag (to_z-of_z w32 c.args.value c.ranges.value) in (
      word.0 ++ mag c.args.value,
      value_parts c.args.codes.now c.args.symbol c.args.value ∙ ap (λ (t : Text). then_text t (Ok (mag c.args.value))) word.1,
      c.in_ok-put_bits.ensures ∙ ap (λ (l : List Bool). l ++ low_bits c.size-size.result c.from.result) word.2
          ∙ append_assoc old word.0 (low_bits c.size-size.result c.from.result) ∙ ap (λ (m : List Bool). old ++ (word.0 ++ m)) bits,
    )
