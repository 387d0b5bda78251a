use Rattle.std.proofs.Common.{◌+◌, ◌*◌, ◌%◌, ◌^◌, ℕ, refl, ap, ap₂, ◌∙◌, arith}
use Rattle.bit_list.specs.Bits.{low_bits}
use Rattle.scan_write.specs.Outputs.{output_with, appended}
use Rattle.scan_write.proofs.ValueCodes.{are_joined}
use Rattle.scan_write.proofs.values.put_both.Goals as goal

pub overflow_add-joined : goal.overflow_add-joined
overflow_add-joined c =
    let a = c.args in
    let joined = are_joined a.count a.size a.code a.next (a.code * 2 ^ a.size % 2 ^ 32 + a.next) (omega (arith, c.requires.count, c.requires.size)) c.requires.code c.requires.next refl in
    rw (c.from.ensures, c.from-2.ensures) (omega (arith, joined.word))

pub put-requires-clause-code : goal.put-requires-clause-code
put-requires-clause-code c =
    let a = c.args in
    let joined = are_joined a.count a.size a.code a.next (a.code * 2 ^ a.size % 2 ^ 32 + a.next) (omega (arith, c.requires.count, c.requires.size)) c.requires.code c.requires.next refl in
    rw (c.from.ensures, c.from-2.ensures, c.from-3.ensures) joined.below

pub returns-clause-is : goal.returns-clause-is
returns-clause-is c =
    let a = c.args in
    let joined = are_joined a.count a.size a.code a.next (a.code * 2 ^ a.size % 2 ^ 32 + a.next) (omega (arith, c.requires.count, c.requires.size)) c.requires.code c.requires.next refl in
    let is = ap₂ (λ (code next : ℕ). code * 2 ^ a.size % 2 ^ 32 + next) c.from.ensures c.from-2.ensures in
    c.put.ensures.is ∙ ap (appended (output_with a.output.now a.out.now)) (ap₂ low_bits c.from-3.ensures is ∙ joined.bits)
