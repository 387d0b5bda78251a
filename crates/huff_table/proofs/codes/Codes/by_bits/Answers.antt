use Rattle.std.proofs.Common.{◌≡◌, ℕ, ◌+◌, ◌*◌, ◌<◌, Bool, true, false, List, length, take, drop, get_or, Ok, Err, refl, sym, ap, ◌∙◌, subst, arith, sum}
use Rattle.std.proofs.lemmas.Result.{err_from_is_err_and}
use mir.Val.{bool_byte}
use Rattle.jpeg_marker.specs.HuffmanTables.{TableFields}
use Rattle.bit_list.specs.Units.{bit_at}
use Rattle.huff_table.specs.Levels.{value_among}
use Rattle.huff_table.specs.declared.fault.CodeFault.TheVariants.{NoWord}
use Rattle.huff_table.proofs.Decoded.{Turn, Reaches, number, whole_left, reaches_start, turn_small, turn_fault, turn_found, turn_more, turns_end}
use Rattle.huff_table.proofs.codes.Codes.by_bits.Goals as goal

is_number : (n : ℕ) (bit : Bool) → n ≡ bool_byte bit → n ≡ number bit
is_number n true e = e
is_number n false e = e

small_bit : (bit : Bool) → number bit < 2
small_bit true = omega arith
small_bit false = omega arith

pub loop-count-init : goal.loop-count-init
loop-count-init c =
    let is = c.counts-counts.ensures.kept in
    record {
      bytes = refl;
      whole = ap length c.values-values.ensures.value ∙ is.whole ∙ ap sum (sym c.counts-counts.ensures.value);
      reaches = subst (λ (t : TableFields). Reaches t c.args.input.now.bytes c.args.input.now.cursor 0 0 0 c.counts-counts.result.now c.values-values.result.now c.args.input.now.cursor) c.self.view_is
          (rw (c.counts-counts.ensures.value, c.values-values.ensures.value) (reaches_start c.self.inside.table c.args.input.now.bytes c.args.input.now.cursor is));
    }

pub overflow_mul-code : goal.overflow_mul-code
overflow_mul-code c =
    let l = c.loop-count in
    let counts = c.counts-counts.result.now in
    let size : length counts ≡ 16 = ap length c.counts-counts.ensures.value ∙ c.counts-counts.ensures.kept.lengths in
    let turn : Turn l.count-index (get_or counts l.count-index 0) counts l.values.now (take (get_or counts l.count-index 0) l.values.now) (drop (get_or counts l.count-index 0) l.values.now) =
    record { within = omega (arith, size, c.loop-count-test.true); is_count = refl; prefix = refl; back = refl } in
    let small : l.code < 65536 = (turn_small turn l.invariant.reaches).0 in
    omega (arith, small)

pub overflow_add-code : goal.overflow_add-code
overflow_add-code c =
    let l = c.loop-count in
    let counts = c.counts-counts.result.now in
    let size : length counts ≡ 16 = ap length c.counts-counts.ensures.value ∙ c.counts-counts.ensures.kept.lengths in
    let turn : Turn l.count-index (get_or counts l.count-index 0) counts l.values.now (take (get_or counts l.count-index 0) l.values.now) (drop (get_or counts l.count-index 0) l.values.now) =
    record { within = omega (arith, size, c.loop-count-test.true); is_count = refl; prefix = refl; back = refl } in
    let small : l.code < 65536 = (turn_small turn l.invariant.reaches).0 in
    let bit = is_number c.from.result c.in_ok-bit.field-0 c.from.ensures in
    omega (arith, small, bit, small_bit c.in_ok-bit.field-0)

pub returns-in_err-bit-clause-err : goal.returns-in_err-bit-clause-err
returns-in_err-bit-clause-err c =
    let l = c.loop-count in
    let counts = c.counts-counts.result.now in
    let size : length counts ≡ 16 = ap length c.counts-counts.ensures.value ∙ c.counts-counts.ensures.kept.lengths in
    let turn : Turn l.count-index (get_or counts l.count-index 0) counts l.values.now (take (get_or counts l.count-index 0) l.values.now) (drop (get_or counts l.count-index 0) l.values.now) =
    record { within = omega (arith, size, c.loop-count-test.true); is_count = refl; prefix = refl; back = refl } in
    let p = err_from_is_err_and c.from_residual.result c.from_residual.ensures.1 in
    let fault = subst (λ (b : List ℕ). bit_at b l.input.cursor ≡ Err c.in_err-bit.field-0.0) l.invariant.bytes c.in_err-bit.ensures.err in
    rw (p.1, p.2) (turn_fault c.in_err-bit.field-0.0 turn l.invariant.reaches fault)

pub returns-in-Some-clause-ok : goal.returns-in-Some-clause-ok
returns-in-Some-clause-ok c =
    let l = c.loop-count in
    let counts = c.counts-counts.result.now in
    let size : length counts ≡ 16 = ap length c.counts-counts.ensures.value ∙ c.counts-counts.ensures.kept.lengths in
    let turn : Turn l.count-index c.from-in-loop-count.result counts l.values.now c.split_at.result.0.now c.split_at.result.1.now =
    record { within = omega (arith, size, c.loop-count-test.true); is_count = c.from-in-loop-count.ensures; prefix = c.split_at.ensures.front; back = c.split_at.ensures.back } in
    let bit = subst (λ (b : List ℕ). bit_at b l.input.cursor ≡ Ok (c.in_ok-bit.field-0, c.bit.new.self.cursor)) l.invariant.bytes c.in_ok-bit.ensures.ok in
    turn_found c.bit.new.self.cursor c.in_ok-bit.field-0 c.in-Some.found turn l.invariant.reaches bit
    (ap (λ n. value_among c.split_at.result.0.now l.first (2 * l.code + n)) (sym (is_number c.from.result c.in_ok-bit.field-0 c.from.ensures)) ∙ sym c.value_among.ensures ∙ c.in-Some.is)

pub loop-count-preserved : goal.loop-count-preserved
loop-count-preserved c =
    let l = c.loop-count in
    let counts = c.counts-counts.result.now in
    let size : length counts ≡ 16 = ap length c.counts-counts.ensures.value ∙ c.counts-counts.ensures.kept.lengths in
    let turn : Turn l.count-index c.from-in-loop-count.result counts l.values.now c.split_at.result.0.now c.split_at.result.1.now =
    record { within = omega (arith, size, c.loop-count-test.true); is_count = c.from-in-loop-count.ensures; prefix = c.split_at.ensures.front; back = c.split_at.ensures.back } in
    let bit = subst (λ (b : List ℕ). bit_at b l.input.cursor ≡ Ok (c.in_ok-bit.field-0, c.bit.new.self.cursor)) l.invariant.bytes c.in_ok-bit.ensures.ok in
    let same = is_number c.from.result c.in_ok-bit.field-0 c.from.ensures in
    let none = ap (λ n. value_among c.split_at.result.0.now l.first (2 * l.code + n)) (sym same) ∙ sym c.value_among.ensures ∙ c.in_default.is in
    let count : c.from-in-loop-count.result ≡ c.from-in-loop-count-2.result = c.from-in-loop-count.ensures ∙ sym c.from-in-loop-count-2.ensures in
    record {
      bytes = c.in_ok-bit.ensures.bytes ∙ l.invariant.bytes;
      whole = whole_left l.count-index c.from-in-loop-count.result counts l.values.now c.split_at.result.0.now c.split_at.result.1.now turn l.invariant.whole;
      reaches = rw (same, ← count) (turn_more c.bit.new.self.cursor c.in_ok-bit.field-0 turn l.invariant.reaches bit none);
    }

pub returns-clause-err : goal.returns-clause-err
returns-clause-err c =
    let size : length c.counts-counts.result.now ≡ 16 = ap length c.counts-counts.ensures.value ∙ c.counts-counts.ensures.kept.lengths in
    turns_end c.counts-counts.result.now (omega (arith, size, c.loop-count-test.false)) c.loop-count.invariant.reaches ∙ ap (λ n. Err (NoWord n)) (sym c.place.ensures)
