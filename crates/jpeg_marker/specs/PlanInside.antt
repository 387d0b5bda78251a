-- View: a plan by its fields, and what holds of them (own).
use Rattle.std.specs.Prelude.{◌-◌, ◌≡◌, ◌++◌, length, take, replicate}
use Rattle.jpeg_marker.specs.Plans.{PlanFields, IsPlan}
use Rattle.jpeg_marker.specs.Components.{no_component}
use Rattle.jpeg_marker.specs.declared.plan.Plan.TheInside.{Inside}

-- a plan of the components that there are
abbrev pub plan_fields : Inside → PlanFields
plan_fields p = record {
  components = take p.count p.components;
  across = p.across;
  down = p.down;
  interval = p.interval;
  header_length = p.header_length;
  blocks = p.blocks;
  known = p.known;
}

-- there is no component after the last one, so that the components determine what is kept
pub record IsPlanInside (p : Inside) : Type 0 where
  pub plan : IsPlan (plan_fields p)
  pub long : length (take p.count p.components) ≡ p.count
  pub blank : p.components ≡ take p.count p.components ++ replicate (4 - p.count) no_component

-- what is kept of it
abbrev pub plan_inside : PlanFields → Inside
plan_inside p = record {
  components = p.components ++ replicate (4 - length p.components) no_component;
  count = length p.components;
  across = p.across;
  down = p.down;
  interval = p.interval;
  header_length = p.header_length;
  blocks = p.blocks;
  known = p.known;
}
