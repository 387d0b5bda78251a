use Rattle.std.proofs.Common.{◌≡◌, length, drop, get_or, sym, ap, ◌∙◌, arith, sum}
use Rattle.bit_list.specs.Bits.{low_bits}
use Rattle.huff_table.proofs.Decoded.{Turn, whole_left}
use Rattle.huff_table.proofs.ShortReading.{passes_start, passes_end, short_is, short_later}
use Rattle.huff_table.proofs.short_words.short_word.Goals as goal

pub loop-i-init : goal.loop-i-init
loop-i-init c =
    let is = c.counts-counts.ensures.kept in
    record {
      whole = ap length c.values-values.ensures.value ∙ is.whole ∙ ap sum (sym c.counts-counts.ensures.value);
      passes = rw (c.counts-counts.ensures.value, c.values-values.ensures.value) (passes_start c.args.table.now (low_bits 9 c.args.index) is);
    }

pub returns-in-Some : goal.returns-in-Some
returns-in-Some c =
    let l = c.loop-i in
    let counts = c.counts-counts.result.now in
    let size : length counts ≡ 16 = ap length c.counts-counts.ensures.value ∙ c.counts-counts.ensures.kept.lengths in
    let turn : Turn l.i c.from-in-loop-i.result counts l.values.now c.split_at.result.0.now c.split_at.result.1.now =
    record { within = omega (arith, size, c.loop-i-test.true); is_count = c.from-in-loop-i.ensures ∙ ap (λ n. get_or counts n 0) c.from.ensures; prefix = c.split_at.ensures.front; back = c.split_at.ensures.back } in
    short_is c.args.index c.from-in-loop-i-2.result c.in-Some.value c.requires c.loop-i-test.true c.from-in-loop-i-2.ensures turn l.invariant.passes (sym c.value_among.ensures ∙ c.in-Some.is)

pub loop-i-preserved : goal.loop-i-preserved
loop-i-preserved c =
    let l = c.loop-i in
    let counts = c.counts-counts.result.now in
    let size : length counts ≡ 16 = ap length c.counts-counts.ensures.value ∙ c.counts-counts.ensures.kept.lengths in
    let turn : Turn l.i c.from-in-loop-i.result counts l.values.now c.split_at.result.0.now c.split_at.result.1.now =
    record { within = omega (arith, size, c.loop-i-test.true); is_count = c.from-in-loop-i.ensures ∙ ap (λ n. get_or counts n 0) c.from.ensures; prefix = c.split_at.ensures.front; back = c.split_at.ensures.back } in
    let count : c.from-in-loop-i.result ≡ c.from-in-loop-i-3.result = c.from-in-loop-i.ensures ∙ sym c.from-in-loop-i-3.ensures in
    record {
      whole = whole_left l.i c.from-in-loop-i.result counts l.values.now c.split_at.result.0.now c.split_at.result.1.now turn l.invariant.whole;
      passes = rw (← count) (short_later c.args.index c.from-in-loop-i-2.result c.requires c.loop-i-test.true c.from-in-loop-i-2.ensures turn l.invariant.passes (sym c.value_among.ensures ∙ c.in_default.is));
    }

pub returns : goal.returns
returns c =
    let l = c.loop-i in
    sym (passes_end c.args.table.now (low_bits 9 c.args.index) l.i l.first (drop l.i c.counts-counts.result.now) l.values.now c.loop-i-test.false l.invariant.passes)
