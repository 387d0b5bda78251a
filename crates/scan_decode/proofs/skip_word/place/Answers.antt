use Rattle.std.proofs.Common.{◌^◌, ◌<◌, ◌≤◌, ℕ, arith, sym, ap, subst, ◌∙◌, length-set}
use Rattle.std.specs.Prelude.{Some}
use Rattle.bit_list.specs.Bits.{low_bits}
use Rattle.scan_decode.proofs.SkipReading.{begins, set_skips, within_all}
use Rattle.scan_decode.proofs.skip_word.place.Goals as goal

pub bounds-words-index : goal.bounds-words-index
bounds-words-index c =
    let code = c.from.result in
    let size = c.in-Some.word.1 in
    let few : size ≤ 12 = let most = c.if-size-gt-BITS.false in omega (arith, most) in
    let below : code < 2 ^ size = subst (λ (n : ℕ). n < 2 ^ size) (sym c.from.ensures) c.in-Some.ensures.below in
    let all = within_all code size c.numbers_after-count.result few c.numbers_after-count.ensures below in
    let long = c.loop-index.invariant.size in
    let under = c.loop-index-test.true in
    omega (arith, all, long, under)

pub loop-index-preserved : goal.loop-index-preserved
loop-index-preserved c =
    let l = c.loop-index in
    let word = c.one_symbol-word.result in
    let code = c.from.result in
    let size = c.in-Some.word.1 in
    let few : size ≤ 12 = let most = c.if-size-gt-BITS.false in omega (arith, most) in
    let under = c.loop-index-test.true in
    let from = c.loop-index.auto.index in
    let is = c.in-Some.ensures.some ∙ ap Some (ap (low_bits size) (sym c.from.ensures)
    ∙ begins code size c.numbers_after-count.result l.index few c.numbers_after-count.ensures (omega (arith, from)) (omega (arith, under))) in
    record {
      size = length-set l.words l.index word ∙ l.invariant.size;
      skips = set_skips c.args.codes.now l.words l.index word l.invariant.skips
          (c.one_symbol-word.ensures c.args.codes.now (low_bits 12 l.index) c.word.ensures.kept is);
    }
