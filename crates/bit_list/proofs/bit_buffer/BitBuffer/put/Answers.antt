use Rattle.std.proofs.Common.{◌≡◌, ℕ, List, Bool, length, [], bit_and, ◌+◌, ◌-◌, ◌*◌, ◌%◌, ◌^◌, ◌<◌, ◌++◌, refl, sym, ap, ◌∙◌, arith}
use Rattle.bit_list.specs.Bits.{low_bits, bytes_after, begun_after, stuffed}
use Rattle.bit_list.specs.NumbersOfBits.{length-low_bits}
use Rattle.bit_list.proofs.Machine.{masked, split_off}
use Rattle.bit_list.proofs.Putting.{code_joined, code_bits, four_put}
use Rattle.bit_list.proofs.bit_buffer.BitBuffer.put.Goals as goal

pub invariant_of-self : goal.invariant_of-self
invariant_of-self c =
    let i = c.self.inside in
    record {
      few = omega (arith, c.if-total-lt32.true);
      below = rw c.from.ensures (code_joined i.count c.args.count i.number c.args.code c.self.invariant.few c.requires.count c.self.invariant.below c.requires.code).1;
    }

pub put_whole-requires-clause-below : goal.put_whole-requires-clause-below
put_whole-requires-clause-below c =
    let i = c.self.inside in
    let total = i.count + c.args.count in
    let word = i.number * 2 ^ c.args.count % 2 ^ 64 + c.from.result in
    let below : word < 2 ^ total =
    rw c.from.ensures (code_joined i.count c.args.count i.number c.args.code c.self.invariant.few c.requires.count c.self.invariant.below c.requires.code).1 in
    let whole : total - 32 + 32 ≡ total = omega (arith, c.if-total-lt32.false) in
    (split_off total word 32 (total - 32) (word % 2 ^ (total - 32)) whole below refl).0

pub put_whole-requires-clause-room : goal.put_whole-requires-clause-room
put_whole-requires-clause-room c =
    let long = ap length (sym c.self.view_is) ∙ length-low_bits c.self.inside.count c.self.inside.number in
    omega (arith, long, c.requires.room, c.if-total-lt32.false)

pub returns-then-total-lt32-clause-bytes : goal.returns-then-total-lt32-clause-bytes
returns-then-total-lt32-clause-bytes c =
    let i = c.self.inside in
    let joined = code_joined i.count c.args.count i.number c.args.code c.self.invariant.few c.requires.count c.self.invariant.below c.requires.code in
    let is = ap (λ (code : ℕ). i.number * 2 ^ c.args.count % 2 ^ 64 + code) c.from.ensures ∙ joined.0 in
    ap (λ (bits : List Bool). c.args.out.now ++ stuffed (bytes_after [] bits))
    (code_bits i.count c.args.count i.number c.args.code _ c.args.self.now c.requires.code is c.self.view_is)

pub returns-then-total-lt32-clause-begun : goal.returns-then-total-lt32-clause-begun
returns-then-total-lt32-clause-begun c =
    let i = c.self.inside in
    let joined = code_joined i.count c.args.count i.number c.args.code c.self.invariant.few c.requires.count c.self.invariant.below c.requires.code in
    let is = ap (λ (code : ℕ). i.number * 2 ^ c.args.count % 2 ^ 64 + code) c.from.ensures ∙ joined.0 in
    ap (begun_after []) (code_bits i.count c.args.count i.number c.args.code _ c.args.self.now c.requires.code is c.self.view_is)

pub returns-then-total-lt32-clause-few : goal.returns-then-total-lt32-clause-few
returns-then-total-lt32-clause-few c =
    let i = c.self.inside in
    let old = ap length (sym c.self.view_is) ∙ length-low_bits i.count i.number in
    let new = length-low_bits (i.count + c.args.count) (i.number * 2 ^ c.args.count % 2 ^ 64 + c.from.result) in
    omega (arith, old, new)

pub returns-else-total-lt32-clause-bytes : goal.returns-else-total-lt32-clause-bytes
returns-else-total-lt32-clause-bytes c =
    let i = c.self.inside in
    let total = i.count + c.args.count in
    let word = i.number * 2 ^ c.args.count % 2 ^ 64 + c.from.result in
    let joined = code_joined i.count c.args.count i.number c.args.code c.self.invariant.few c.requires.count c.self.invariant.below c.requires.code in
    let is : word ≡ i.number * 2 ^ c.args.count + c.args.code = ap (λ (code : ℕ). i.number * 2 ^ c.args.count % 2 ^ 64 + code) c.from.ensures ∙ joined.0 in
    let whole : total - 32 + 32 ≡ total = omega (arith, c.if-total-lt32.false) in
    (four_put total (total - 32) word _ c.args.out.now _ (c.args.self.now ++ low_bits c.args.count c.args.code) whole (rw c.from.ensures joined.1)
    (masked word (total - 32) 64 (omega (arith, c.self.invariant.few, c.requires.count)))
    (code_bits i.count c.args.count i.number c.args.code word c.args.self.now c.requires.code is c.self.view_is) c.put_whole.ensures.bytes).0

pub returns-else-total-lt32-clause-begun : goal.returns-else-total-lt32-clause-begun
returns-else-total-lt32-clause-begun c =
    let i = c.self.inside in
    let total = i.count + c.args.count in
    let word = i.number * 2 ^ c.args.count % 2 ^ 64 + c.from.result in
    let joined = code_joined i.count c.args.count i.number c.args.code c.self.invariant.few c.requires.count c.self.invariant.below c.requires.code in
    let is : word ≡ i.number * 2 ^ c.args.count + c.args.code = ap (λ (code : ℕ). i.number * 2 ^ c.args.count % 2 ^ 64 + code) c.from.ensures ∙ joined.0 in
    let whole : total - 32 + 32 ≡ total = omega (arith, c.if-total-lt32.false) in
    (four_put total (total - 32) word _ c.args.out.now _ (c.args.self.now ++ low_bits c.args.count c.args.code) whole (rw c.from.ensures joined.1)
    (masked word (total - 32) 64 (omega (arith, c.self.invariant.few, c.requires.count)))
    (code_bits i.count c.args.count i.number c.args.code word c.args.self.now c.requires.code is c.self.view_is) c.put_whole.ensures.bytes).1

pub returns-else-total-lt32-clause-few : goal.returns-else-total-lt32-clause-few
returns-else-total-lt32-clause-few c =
    let i = c.self.inside in
    let total = i.count + c.args.count in
    let old = ap length (sym c.self.view_is) ∙ length-low_bits i.count i.number in
    let word = i.number * 2 ^ c.args.count % 2 ^ 64 + c.from.result in
    let new = length-low_bits (total - 32) (bit_and word (1 * 2 ^ (total - 32) % 2 ^ 64 - 1)) in
    omega (arith, old, new, c.put_whole.ensures.few, c.if-total-lt32.false)

pub returns-then-total-lt32-clause-short : goal.returns-then-total-lt32-clause-short
returns-then-total-lt32-clause-short c =
    let i = c.self.inside in
    let new = length-low_bits (i.count + c.args.count) (i.number * 2 ^ c.args.count % 2 ^ 64 + c.from.result) in
    omega (arith, new, c.if-total-lt32.true)

pub returns-else-total-lt32-clause-short : goal.returns-else-total-lt32-clause-short
returns-else-total-lt32-clause-short c =
    let i = c.self.inside in
    let total = i.count + c.args.count in
    let word = i.number * 2 ^ c.args.count % 2 ^ 64 + c.from.result in
    let new = length-low_bits (total - 32) (bit_and word (1 * 2 ^ (total - 32) % 2 ^ 64 - 1)) in
    omega (arith, new, c.self.invariant.few, c.requires.count)
