use Rattle.std.proofs.Common.{◌≡◌, length, arith}
use Rattle.bool_coder.proofs.Append.{Appends-from, carry_room, no_carry, one_carry, Appends-carried}
use Rattle.bool_coder.proofs.Bytes.{all_below}
use Rattle.bool_coder.proofs.encoder.append.Goals as goal

pub carry-requires-clause-room : goal.carry-requires-clause-room
carry-requires-clause-room c =
    let a = Appends-from _ _ _ _ c.args.count (omega arith) c.to_be_bytes.ensures c.in_ok-extend_from_slice.ensures.items in
    let w : c.len-whole.result ≡ length c.args.written.now.items = omega arith in
    rw (w, a.prefix) (carry_room _ c.args.number c.args.count _ c.if-number-count-ne0.true c.requires.room)

pub returns-then-number-count-ne0-clause-number : goal.returns-then-number-count-ne0-clause-number
returns-then-number-count-ne0-clause-number c =
    let a = Appends-from _ _ _ _ c.args.count (omega arith) c.to_be_bytes.ensures c.in_ok-extend_from_slice.ensures.items in
    let w : c.len-whole.result ≡ length c.args.written.now.items = omega arith in
    let carried = Appends-carried _ _ c.carry.new.written.items _ _ c.len-whole.result w a c.carry.ensures.number c.carry.ensures.rest in
    let one = one_carry c.args.number c.args.count c.if-number-count-ne0.true c.requires.carry in
    omega (arith, carried, one, a.number)

pub returns-then-number-count-ne0-clause-bytes : goal.returns-then-number-count-ne0-clause-bytes
returns-then-number-count-ne0-clause-bytes c = all_below _ c.type_inv.written

pub returns-else-number-count-ne0-clause-number : goal.returns-else-number-count-ne0-clause-number
returns-else-number-count-ne0-clause-number c =
    let a = Appends-from _ _ _ _ c.args.count (omega arith) c.to_be_bytes.ensures c.in_ok-extend_from_slice.ensures.items in
    omega (arith, a.number, no_carry c.args.number c.args.count c.if-number-count-ne0.false)

pub returns-else-number-count-ne0-clause-bytes : goal.returns-else-number-count-ne0-clause-bytes
returns-else-number-count-ne0-clause-bytes c = all_below _ c.type_inv.written
