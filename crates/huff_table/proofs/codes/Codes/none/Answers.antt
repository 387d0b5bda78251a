use Rattle.std.proofs.Common.{replicate, sym, subst}
use Rattle.jpeg_marker.specs.HuffmanTables.{TableFields}
use Rattle.huff_table.specs.CodesInside.{no_word, IsKept}
use Rattle.huff_table.specs.ShortWords.{no_short}
use Rattle.huff_table.proofs.NoWords.{none_kept}
use Rattle.huff_table.proofs.codes.Codes.none.Goals as goal

pub invariant_of-result : goal.invariant_of-result
invariant_of-result c =
    subst (λ (t : TableFields). IsKept (record { table = t; words = replicate 256 no_word; short = replicate 512 no_short; word_ends = replicate 16 0; value_ends = replicate 16 0 }))
    (sym c.empty.ensures) none_kept
