use Rattle.std.proofs.Common.{length, [], bit_and, ◌-◌, ◌*◌, ◌%◌, ◌^◌, refl, sym, ap, ◌∙◌, arith}
use Rattle.bit_list.specs.Bits.{low_bits, begun_after}
use Rattle.bit_list.specs.NumbersOfBits.{length-low_bits}
use Rattle.bit_list.proofs.Machine.{masked}
use Rattle.bit_list.proofs.Putting.{low_bits-low}
use Rattle.bit_list.proofs.WholeBytes.{are_first}
use Rattle.bit_list.proofs.bit_buffer.BitBuffer.begun.Goals as goal

pub put_whole-requires-clause-room : goal.put_whole-requires-clause-room
put_whole-requires-clause-room c =
    let long = ap length (sym c.self.view_is) ∙ length-low_bits c.self.inside.count c.self.inside.number in
    omega (arith, long, c.requires.room)

pub returns-clause-begun : goal.returns-clause-begun
returns-clause-begun c =
    let i = c.self.inside in
    let first = are_first 8 i.count i.number (i.number * 2 ^ (64 - i.count)) (omega (arith, c.self.invariant.few)) refl in
    ap (low_bits (i.count % 8)) (masked i.number (i.count % 8) 64 (omega arith))
    ∙ low_bits-low (i.count % 8) i.number ∙ sym first.begun ∙ ap (begun_after []) c.self.view_is

pub returns-clause-few : goal.returns-clause-few
returns-clause-few c =
    let i = c.self.inside in
    let old = ap length (sym c.self.view_is) ∙ length-low_bits i.count i.number in
    let new = length-low_bits (i.count % 8) (bit_and i.number (1 * 2 ^ (i.count % 8) % 2 ^ 64 - 1)) in
    omega (arith, old, new, c.put_whole.ensures.few)
