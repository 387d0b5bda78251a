use Rattle.std.proofs.Common.{ℕ, ap, ◌∙◌, arith}
use Rattle.std.specs.Prelude.{min}
use Rattle.std.specs.Int.{div_ceil}
use Rattle.segment_encode.proofs.FewLanes.{are_all_in}
use Rattle.segment_encode.proofs.lanes.in_a_lane.Goals as goal

pub returns-clause-most : goal.returns-clause-most
returns-clause-most c =
    let most = are_all_in c.args.segments c.min-lanes.result (omega arith) (omega arith) in
    let each = c.div_ceil.ensures in
    omega (arith, most, each)

pub returns-clause-value : goal.returns-clause-value
returns-clause-value c =
    c.div_ceil.ensures ∙ ap (div_ceil c.args.segments) (c.min-lanes.ensures ∙ ap (λ (n : ℕ). min n 16) c.max.ensures)
