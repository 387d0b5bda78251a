use Rattle.std.proofs.Common.{◌+◌, ◌∙◌, sym, ap, Some, option_map, arith}
use Rattle.bool_coder.specs.BoolStream.{after}
use Rattle.bool_coder.proofs.EncoderWord.{first-word, shown, step-longer}
use Rattle.bool_coder.proofs.encoder.Encoder.put.Goals as goal

pub invariant_of-self : goal.invariant_of-self
invariant_of-self c =
    let w = (step-longer c.self.inside.written.items c.self.inside.low (c.self.inside.less + 1) c.args.prob c.args.bit _ _ c.self.invariant (omega arith) (c.step-low.ensures.coded c.self.inside.written.items) c.step-low.ensures.no_less c.step-low.ensures.few_more c.step-low.ensures.one_carry) in
    record { wide = w.wide; byte = w.byte; begun = w.begun; short = c.if-low-lt-FULL.true; one_carry = w.one_carry; on_line = w.on_line }

pub flush_into-requires-clause-word : goal.flush_into-requires-clause-word
flush_into-requires-clause-word c = (c.step-low.result.1 + 1, (step-longer c.self.inside.written.items c.self.inside.low (c.self.inside.less + 1) c.args.prob c.args.bit _ _ c.self.invariant (omega arith) (c.step-low.ensures.coded c.self.inside.written.items) c.step-low.ensures.no_less c.step-low.ensures.few_more c.step-low.ensures.one_carry))

pub invariant_of-self-in-Ok : goal.invariant_of-self-in-Ok
invariant_of-self-in-Ok c = (c.in-Ok.ensures.kept (c.step-low.result.1 + 1) (step-longer c.self.inside.written.items c.self.inside.low (c.self.inside.less + 1) c.args.prob c.args.bit _ _ c.self.invariant (omega arith) (c.step-low.ensures.coded c.self.inside.written.items) c.step-low.ensures.no_less c.step-low.ensures.few_more c.step-low.ensures.one_carry)).is

pub invariant_of-self-in-Err : goal.invariant_of-self-in-Err
invariant_of-self-in-Err c = first-word _ c.in-Err.ensures.lost

pub returns-in-Ok-clause-coded : goal.returns-in-Ok-clause-coded
returns-in-Ok-clause-coded c =
    let was = ap (option_map (λ i. after i (c.args.prob, c.args.bit))) (sym (shown _ _ c.in_default.is) ∙ c.self.view_is) in
    let coded = c.step-low.ensures.coded c.self.inside.written.items in
    let flushed = c.in-Ok.ensures.kept (c.step-low.result.1 + 1) (step-longer c.self.inside.written.items c.self.inside.low (c.self.inside.less + 1) c.args.prob c.args.bit _ _ c.self.invariant (omega arith) (c.step-low.ensures.coded c.self.inside.written.items) c.step-low.ensures.no_less c.step-low.ensures.few_more c.step-low.ensures.one_carry) in
    shown _ _ c.in_default.is ∙ ap Some (flushed.same ∙ coded) ∙ was
