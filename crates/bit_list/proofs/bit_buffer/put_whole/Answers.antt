use Rattle.std.proofs.Common.{◌/◌, List, ℕ, ◌++◌, sym, ap, ◌∙◌, arith}
use Rattle.std.specs.Int.{bytes_high_first}
use Rattle.bit_list.specs.Bits.{stuffed}
use Rattle.bit_list.proofs.Putting.{shifted_word}
use Rattle.bit_list.proofs.WholeBytes.{are_first, plain_bytes}
use Rattle.bit_list.proofs.bit_buffer.put_whole.Goals as goal

pub returns-clause-bytes : goal.returns-clause-bytes
returns-clause-bytes c =
    let bits = c.wrapping_shl-bits.result in
    let whole = c.wrapping_shl-bits.ensures ∙ shifted_word c.args.count c.args.number c.requires.few c.requires.below in
    let first = are_first 8 c.args.count c.args.number bits (omega arith) whole in
    let plain = plain_bytes (c.args.count / 8) (bytes_high_first 8 bits) (c.may_have_full_byte.ensures c.if-may_have_full_byte.false) in
    c.push_first.ensures
    ∙ ap (λ (bs : List ℕ). c.args.out.now ++ bs) (sym plain)
    ∙ ap (λ (bs : List ℕ). c.args.out.now ++ stuffed bs) (sym first.bytes)
