use Rattle.std.proofs.Common.{◌≡◌, length, get_or, ap, ◌∙◌, arith}
use Rattle.huff_table.proofs.LongReading.{end_fits, word_end_made}
use Rattle.huff_table.proofs.long_words.word_ends.Goals as goal

pub in_sixteen-requires-clause-most : goal.in_sixteen-requires-clause-most
in_sixteen-requires-clause-most c =
    let counts = c.args.table.now.counts in
    let long : length counts ≡ 16 = c.counts-count-items.ensures.kept.lengths in
    let is : c.from.result ≡ get_or counts c.loop-i.i 0 = c.from.ensures ∙ ap (λ l. get_or l c.loop-i.i 0) c.counts-count-items.ensures.value in
    end_fits c.from.result c.loop-i.invariant (omega (arith, long, c.loop-i-test.true)) is

pub loop-i-preserved : goal.loop-i-preserved
loop-i-preserved c =
    let counts = c.args.table.now.counts in
    let long : length counts ≡ 16 = c.counts-count-items.ensures.kept.lengths in
    let is : c.from.result ≡ get_or counts c.loop-i.i 0 = c.from.ensures ∙ ap (λ l. get_or l c.loop-i.i 0) c.counts-count-items.ensures.value in
    word_end_made c.from.result c.in_sixteen.result c.loop-i.invariant long c.loop-i-test.true is c.in_sixteen.ensures
