use Rattle.std.proofs.Common.{◌∙◌}
use Rattle.segment_code.specs.PassInside.{part_in, pass_in}
use Rattle.segment_code.proofs.PassesOn.{coded_read, few_passed, fits, then_coded, then_passed, then_refused}
use Rattle.segment_code.proofs.pass.ScanPass.encode.Goals as goal

pub push-requires : goal.push-requires
push-requires c = few_passed (pass_in c.self.inside) c.args.self.now c.self.view_is c.requires.pass
    c.requires.some

pub code-requires-clause-count : goal.code-requires-clause-count
code-requires-clause-count c =
    fits (pass_in c.self.inside) c.args.self.now (part_in c.next.inside) c.self.view_is
    (c.next.view_is ∙ c.part-next.ensures) c.requires.pass c.requires.some

pub returns-clause-passed : goal.returns-clause-passed
returns-clause-passed c =
    then_passed c.code.result (pass_in c.self.inside) c.args.self.now (part_in c.next.inside)
    c.code.new.reader c.push.new.self c.code.new.pads c.self.view_is
    (c.next.view_is ∙ c.part-next.ensures) c.requires.pass c.requires.some c.in_ok-push.ensures
    (coded_read _ _ _ c.code.result c.code.ensures.coded) c.code.ensures.pads

pub returns-clause-refused : goal.returns-clause-refused
returns-clause-refused c = λ refusal is.
    then_refused (pass_in c.self.inside) c.args.self.now (part_in c.next.inside) refusal
    c.self.view_is (c.next.view_is ∙ c.part-next.ensures) c.requires.pass c.requires.some
    (c.code.ensures.refused refusal is)

pub returns-clause-stream : goal.returns-clause-stream
returns-clause-stream c =
    then_coded (λ v. v.items) c.code.result (pass_in c.self.inside) c.args.self.now
    (part_in c.next.inside) c.code.new.reader c.self.view_is
    (c.next.view_is ∙ c.part-next.ensures) c.requires.pass c.requires.some
    c.code.ensures.coded
