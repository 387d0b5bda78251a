use Rattle.huff_table.proofs.ShortReading.{made_all}
use Rattle.huff_table.proofs.short_words.short_words.Goals as goal

pub returns : goal.returns
returns c = made_all c.args.table.now c.loop-index.index c.loop-index.words c.loop-index.invariant.size c.loop-index-test.false c.loop-index.invariant.made
