use Rattle.std.proofs.Common.{refl, sym, ◌∙◌}
use Rattle.box_format.proofs.ScansFaults.{complete_by}
use Rattle.box_format.proofs.checks.are_complete.Goals as goal

pub returns-then-is_last : goal.returns-then-is_last
returns-then-is_last c =
    complete_by c.args.plans.now c.in-Some.before.now c.in-Some.last.now _ _
    c.in-Some.ensures.cases.0 (sym c.is_last.ensures ∙ c.if-is_last.true) (sym c.is_any_last.ensures)

pub returns-else-is_last : goal.returns-else-is_last
returns-else-is_last c =
    c.if-is_last.false
    ∙ complete_by c.args.plans.now c.in-Some.before.now c.in-Some.last.now _ _
    c.in-Some.ensures.cases.0 (sym c.is_last.ensures ∙ c.if-is_last.false) refl
