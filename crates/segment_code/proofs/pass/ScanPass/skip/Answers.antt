use Rattle.std.proofs.Common.{◌∙◌}
use Rattle.segment_code.specs.PassInside.{part_in, pass_in}
use Rattle.segment_code.proofs.PassesOn.{few_passed, fits, then_passed, then_refused}
use Rattle.segment_code.proofs.pass.ScanPass.skip.Goals as goal

pub push-requires : goal.push-requires
push-requires c = few_passed (pass_in c.self.inside) c.args.self.now c.self.view_is c.requires.pass
    c.requires.some

pub read_mcus-requires-clause-count : goal.read_mcus-requires-clause-count
read_mcus-requires-clause-count c =
    fits (pass_in c.self.inside) c.args.self.now (part_in c.next.inside) c.self.view_is
    (c.next.view_is ∙ c.part-next.ensures) c.requires.pass c.requires.some

pub returns-clause-passed : goal.returns-clause-passed
returns-clause-passed c =
    then_passed c.read_mcus.result (pass_in c.self.inside) c.args.self.now (part_in c.next.inside)
    c.read_mcus.new.reader c.push.new.self c.read_mcus.new.pads c.self.view_is
    (c.next.view_is ∙ c.part-next.ensures) c.requires.pass c.requires.some c.in_ok-push.ensures
    c.read_mcus.ensures.read c.read_mcus.ensures.pads

pub returns-clause-refused : goal.returns-clause-refused
returns-clause-refused c = λ refusal is.
    then_refused (pass_in c.self.inside) c.args.self.now (part_in c.next.inside) refusal
    c.self.view_is (c.next.view_is ∙ c.part-next.ensures) c.requires.pass c.requires.some
    (c.read_mcus.ensures.refused refusal is)
