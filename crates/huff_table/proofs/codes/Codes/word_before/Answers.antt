use Rattle.std.proofs.Common.{Some, ap, ◌∙◌, sym}
use Rattle.huff_table.proofs.LongReading.{begins}
use Rattle.huff_table.proofs.codes.Codes.word_before.Goals as goal

pub returns : goal.returns
returns c =
    let word = c.in_ok-code.ensures in
    (word.size.0, word.size.1, word.some ∙ ap Some (begins c.args.number c.in_ok-code.code c.in_ok-code.size word.size.0 word.size.1 (sym c.if-number-size.false)))
