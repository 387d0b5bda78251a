use Rattle.std.proofs.Common.{◌≡◌, ◌+◌, ◌-◌, ◌*◌, ◌^◌, ◌%◌, sym, arith}
use Rattle.std.specs.Int.{div_ceil}
use Rattle.std.proofs.Math.Nat.{mod-eq_of_lt}
use Rattle.bool_coder.specs.PlainLine.{interval}
use Rattle.bool_coder.proofs.PlainSteps.{plain-fits, plain_bytes}
use Rattle.bool_coder.proofs.plain.bytes_of.Goals as goal

pub returns : goal.returns
returns c =
    let count = 1 + c.div_ceil-count.result in
    let p = 8 * count - (8 + c.args.line.shifts) in
    let size : count ≡ 1 + div_ceil c.args.line.shifts 8 = omega (arith, c.div_ceil-count.ensures) in
    let number : c.args.line.bottom * 2 ^ p % 2 ^ 128 ≡ c.args.line.bottom * 2 ^ p = mod-eq_of_lt (plain-fits (interval c.args.line) count c.requires.kept c.requires.short size) in
    rw (sym (plain_bytes (interval c.args.line) count _ c.to_be_bytes.result (omega arith) size number c.to_be_bytes.ensures)) c.from_slice.ensures.items
