use Rattle.std.proofs.Common.{◌+◌, ◌≡◌, ◌<◌, true, false, sym, ap, ◌∙◌, arith, length}
use Rattle.bool_coder.specs.DecoderSeen.{Seen, seen_bit, seen_after}
use Rattle.bool_coder.proofs.BoolsTaken.{Reads-more}
use Rattle.bool_coder.proofs.decoder.Decoder.take_branching.Goals as goal

pub returns-then-is_one-clause-taken : goal.returns-then-is_one-clause-taken
returns-then-is_one-clause-taken c =
    λ bools r.
    let was = c.fill-fetched.ensures.same (c.self.inside.less + 1) c.self.invariant ∙ c.self.view_is in
    let window = c.fill-fetched.ensures.window (c.self.inside.less + 1) c.self.invariant in
    let now = c.step_known.ensures.step c.self.inside.bytes.now c.fill-fetched.result.0 window ∙ ap (λ s. seen_after s c.args.prob) was in
    let bit : true ≡ seen_bit c.args.self.now c.args.prob = sym c.if-is_one.true ∙ c.is_one.ensures ∙ ap (λ s. seen_bit s c.args.prob) was in
    let some : 0 < length c.args.self.now.bytes = rw (ap (λ (s : Seen). s.bytes) c.self.view_is) at c.self.invariant.some in
    rw now (Reads-more bools c.args.self.now c.args.prob true c.requires (omega arith) some r bit)

pub returns-else-is_one-clause-taken : goal.returns-else-is_one-clause-taken
returns-else-is_one-clause-taken c =
    λ bools r.
    let was = c.fill-fetched.ensures.same (c.self.inside.less + 1) c.self.invariant ∙ c.self.view_is in
    let window = c.fill-fetched.ensures.window (c.self.inside.less + 1) c.self.invariant in
    let now = c.step_known-else-is_one.ensures.step c.self.inside.bytes.now c.fill-fetched.result.0 window ∙ ap (λ s. seen_after s c.args.prob) was in
    let bit : false ≡ seen_bit c.args.self.now c.args.prob = sym c.if-is_one.false ∙ c.is_one.ensures ∙ ap (λ s. seen_bit s c.args.prob) was in
    let some : 0 < length c.args.self.now.bytes = rw (ap (λ (s : Seen). s.bytes) c.self.view_is) at c.self.invariant.some in
    rw now (Reads-more bools c.args.self.now c.args.prob false c.requires (omega arith) some r bit)
