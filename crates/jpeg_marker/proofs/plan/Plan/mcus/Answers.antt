use Rattle.std.proofs.Common.{rules, ◌*◌, ◌≤◌}
use Rattle.jpeg_marker.specs.PlanInside.{plan_fields}
use Rattle.jpeg_marker.specs.Plans.{most_blocks}
use Rattle.jpeg_marker.proofs.PlanGrids.{few_mcus}
use Rattle.jpeg_marker.proofs.plan.Plan.mcus.Goals as goal

pub overflow_mul-result : goal.overflow_mul-result
overflow_mul-result c =
    let few : c.self.inside.across * c.self.inside.down ≤ most_blocks = few_mcus (plan_fields c.self.inside) c.self.invariant.plan in search rules

pub returns-clause-few : goal.returns-clause-few
returns-clause-few c = few_mcus (plan_fields c.self.inside) c.self.invariant.plan
