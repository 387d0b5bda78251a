use Rattle.std.proofs.Common.{◌+◌, ◌-◌, ◌<◌, ℕ, get_or, arith, rules, lit≤}
use Rattle.bool_coder.proofs.FirstBits.{prefix_six, all_bytes, byte_of_eight}
use Rattle.bool_coder.proofs.decoder.next_six.Goals as goal

pub returns-then-fetched-bytes : goal.returns-then-fetched-bytes
returns-then-fetched-bytes c =
    let bytes = c.args.bytes.now in
    let f = c.args.fetched in
    let n = f + 8 - f in
    let below : (i : ℕ) → get_or bytes i 0 < 256 = λ i. let h = c.type_inv.bytes i in search rules in
    let six = prefix_six bytes f (all_bytes bytes below) in
    omega (
      arith,
      six,
      below (f + 6),
      below (f + 7),
      byte_of_eight bytes f n 0 f (omega arith) (lit≤ tt) (omega arith),
      byte_of_eight bytes f n 1 (f + 1) (omega arith) (lit≤ tt) (omega arith),
      byte_of_eight bytes f n 2 (f + 2) (omega arith) (lit≤ tt) (omega arith),
      byte_of_eight bytes f n 3 (f + 3) (omega arith) (lit≤ tt) (omega arith),
      byte_of_eight bytes f n 4 (f + 4) (omega arith) (lit≤ tt) (omega arith),
      byte_of_eight bytes f n 5 (f + 5) (omega arith) (lit≤ tt) (omega arith),
      byte_of_eight bytes f n 6 (f + 6) (omega arith) (lit≤ tt) (omega arith),
      byte_of_eight bytes f n 7 (f + 7) (omega arith) (lit≤ tt) (omega arith),
    )
