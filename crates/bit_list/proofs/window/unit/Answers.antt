use Rattle.std.proofs.Common.{sym, arith}
use Rattle.bit_list.proofs.Stuffing.{unit_past, unit_plain, unit_last, unit_marker, unit_stuffed}
use Rattle.bit_list.proofs.window.unit.Goals as goal

pub returns-then-place-bytes : goal.returns-then-place-bytes
returns-then-place-bytes c = sym (unit_past c.args.bytes.now c.args.place c.if-place-bytes.true)

pub returns-then-byte : goal.returns-then-byte
returns-then-byte c = sym (unit_plain c.args.bytes.now c.args.place c.if-place-bytes.false c.if-byte.true)

pub returns-then-place-bytes-2 : goal.returns-then-place-bytes-2
returns-then-place-bytes-2 c = sym (unit_last c.args.bytes.now c.args.place c.if-place-bytes-2.true c.if-byte.false)

pub returns-then-bytes-place-ne0 : goal.returns-then-bytes-place-ne0
returns-then-bytes-place-ne0 c = sym (unit_marker c.args.bytes.now c.args.place (omega arith) c.if-byte.false c.if-bytes-place-ne0.true)

pub returns : goal.returns
returns c = sym (unit_stuffed c.args.bytes.now c.args.place (omega arith) c.if-byte.false c.if-bytes-place-ne0.false)
