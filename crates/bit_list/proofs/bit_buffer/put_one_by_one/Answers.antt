use Rattle.std.proofs.Common.{◌≡◌, ◌+◌, ◌-◌, ◌/◌, ◌^◌, ℕ, [], ◌++◌, subst, arith}
use Rattle.std.proofs.lemmas.Nat.{and_mask}
use Rattle.bit_list.specs.Bits.{low_bits, bytes_after, stuffed}
use Rattle.bit_list.proofs.Putting.{byte_put, byte_room, put_bytes}
use Rattle.bit_list.proofs.bit_buffer.put_one_by_one.Goals as goal

pub loop-left-preserved : goal.loop-left-preserved
loop-left-preserved c =
    let l = c.loop-left in
    let few = l.invariant.few in
    let rest = l.left - 8 in
    let whole : l.left ≡ 8 + rest = omega (arith, c.loop-left-test.true) in
    let all = c.args.out.now ++ stuffed (bytes_after [] (low_bits c.args.count c.args.number)) in
    let same = subst (λ (n : ℕ). l.out ++ stuffed (bytes_after [] (low_bits n c.args.number)) ≡ all) whole l.invariant.bytes in
    record {
      few = omega arith;
      room = byte_room _ _ _ l.left c.put_byte.ensures.few c.loop-left-test.true l.invariant.room;
      bytes = byte_put l.out _ all rest c.args.number _ (and_mask (c.args.number / 2 ^ rest) 8) c.put_byte.ensures.bytes same;
    }

pub returns-clause-bytes : goal.returns-clause-bytes
returns-clause-bytes c = put_bytes c.args.out.now c.loop-left.out _ c.loop-left.left c.args.number c.loop-left-test.false c.loop-left.invariant.bytes
