use Rattle.std.proofs.Common.{ap, ◌∙◌, arith}
use Rattle.std.proofs.lemmas.Result.{IfOk-weaker}
use Rattle.segment_code.specs.FileStarts.{StartsFields}
use Rattle.segment_code.proofs.RowStarts.{own_rows}
use Rattle.segment_code.proofs.find.find_rows.Goals as goal

pub find_starts-requires-clause-some : goal.find_starts-requires-clause-some
find_starts-requires-clause-some c =
    let is = c.requires.plan in
    omega (arith, is.is_plan.high, c.down.ensures)

pub returns-clause-rows : goal.returns-clause-rows
returns-clause-rows c =
    let is = c.requires.plan in
    IfOk-weaker c.find_starts.result _ _
    (λ starts found. ap (λ (s : StartsFields). s.rows) found.are
    ∙ own_rows c.args.plan.now.across c.args.plan.now.down is.is_plan.high) (rw c.down.ensures at c.find_starts.ensures.starts)
