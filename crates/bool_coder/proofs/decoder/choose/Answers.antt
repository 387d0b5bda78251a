use Rattle.std.proofs.Common.{◌≡◌, ◌+◌, ◌*◌, ◌^◌, ◌%◌, ◌≤◌, Bool, subst, sym, arith}
use Rattle.std.specs.Bool.{FalseIff}
use Rattle.std.proofs.lemmas.Bool.{le-leb}
use Rattle.std.proofs.lemmas.Nat.{pow_pos, shl_whole, le-div}
use Rattle.bool_coder.specs.BoolStream.{split}
use Rattle.bool_coder.proofs.decoder.choose.Goals as goal

start : (c : goal.Else-is_below) → c.from.result * 2 ^ c.args.bits % 18446744073709551616 ≡ split c.args.range c.args.prob * 2 ^ c.args.bits
start c =
    let same : c.from.result ≡ split c.args.range c.args.prob = omega arith in
    rw same (shl_whole (split c.args.range c.args.prob) 8 c.args.bits 64 (omega arith) (omega arith))

-- the word isn't below
least : (c : goal.Else-is_below) → split c.args.range c.args.prob * 2 ^ c.args.bits ≤ c.args.value
least c =
    rw (start c) at
    (subst (λ (b : Bool). FalseIff b (c.from.result * 2 ^ c.args.bits % 18446744073709551616 ≤ c.args.value)) c.if-is_below.false
    c.overflowing_sub-rest.ensures.overflow)

pub returns-else-is_below-clause-bit : goal.returns-else-is_below-clause-bit
returns-else-is_below-clause-bit c =
    sym (le-leb _ _ (le-div (split c.args.range c.args.prob) c.args.value (2 ^ c.args.bits) (pow_pos c.args.bits) (least c)))

pub returns-else-is_below-clause-value : goal.returns-else-is_below-clause-value
returns-else-is_below-clause-value c =
    let rest : (c.overflowing_sub-rest.result.0 + split c.args.range c.args.prob * 2 ^ c.args.bits) % 18446744073709551616 ≡ c.args.value =
    rw (start c) at c.overflowing_sub-rest.ensures.value in
    let within = least c in
    omega (arith, rest, within)
