use Rattle.std.proofs.Common.{[], sym, ap, ap₂, ◌∙◌}
use Rattle.bit_list.specs.Bits.{low_bits}
use Rattle.scan_spec.proofs.Words.{word_none, word_some}
use Rattle.scan_write.specs.Outputs.{output_with, appended}
use Rattle.scan_write.proofs.OutputLemmas.{appended_nothing}
use Rattle.scan_write.proofs.values.word.Goals as goal

pub returns-in_default-clause-is : goal.returns-in_default-clause-is
returns-in_default-clause-is c =
    ([], word_none c.args.codes.now c.args.symbol c.in_default.ensures.none, sym (appended_nothing (output_with c.args.output.now c.args.out.now)))

pub returns-clause-is : goal.returns-clause-is
returns-clause-is c =
    let bits = low_bits c.in-Some.size c.in-Some.code in
    let same = ap₂ low_bits c.from-2.ensures c.from.ensures in
    (bits, word_some c.args.codes.now c.args.symbol bits c.in-Some.ensures.some, c.put.ensures.is ∙ ap (appended (output_with c.args.output.now c.args.out.now)) same)
