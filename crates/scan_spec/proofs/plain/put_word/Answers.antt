use Rattle.std.proofs.Common.{◌++◌, ap, ◌∙◌}
use Rattle.bit_list.specs.Bits.{low_bits}
use Rattle.scan_spec.proofs.Words.{word_none, word_some}
use Rattle.scan_spec.proofs.plain.put_word.Goals as goal

pub returns-in_default : goal.returns-in_default
returns-in_default c = word_none c.args.codes.now c.args.symbol c.in_default.ensures.none

pub returns : goal.returns
returns c =
    let word = low_bits c.in-Some.size c.in-Some.code in
    (word, word_some c.args.codes.now c.args.symbol word c.in-Some.ensures.some, c.in_ok-put_bits.ensures ∙ ap (λ n. c.args.bits.now.items ++ low_bits c.in-Some.size n) c.from.ensures)
