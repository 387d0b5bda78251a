use Rattle.std.proofs.Common.{◌+◌, ◌<◌, ◌≡◌, List, ℕ, sym, subst, arith}
use Rattle.jpeg_marker.specs.Plans.{PlanFields}
use Rattle.jpeg_marker.specs.FirstWalks.{opening_walk}
use Rattle.jpeg_marker.specs.Walks.{next_walk}
use Rattle.box_format.specs.Versions.{layout_of}
use Rattle.box_format.specs.Raws.{Raw}
use Rattle.box_format.specs.Fields.{scans_in, raws_as}
use Rattle.box_format.specs.Checks.{HeadersFail}
use Rattle.box_format.specs.Whole.{IsWholeHeader, IsNoHeader}
use Rattle.box_format.proofs.HeadersRead.{HaveRead, raws_all, fails_at, one_read, more_read, all_read}
use Rattle.box_format.proofs.headers.read_plans.Goals as goal

pub returns-in-Err-clause-failed : goal.returns-in-Err-clause-failed
returns-in-Err-clause-failed c = λ refusal is.
    let v = c.args.version in
    let bytes = c.args.bytes.now in
    let same : c.in-Err.refusal ≡ refusal = cc in
    subst (HeadersFail opening_walk (raws_as v bytes)) same
    (subst (λ (raws : List Raw). HeadersFail opening_walk raws c.in-Err.refusal)
    (sym (raws_all v bytes)) (fails_at v opening_walk bytes 0 c.in-Err.refusal c.requires.some
    (subst (λ (header : List ℕ). IsNoHeader opening_walk header c.in-Err.refusal)
    c.header_at.ensures c.in-Err.ensures.failed)))

pub loop-scan-init : goal.loop-scan-init
loop-scan-init c =
    subst (λ (plans : List PlanFields). HaveRead c.args.version c.args.bytes.now 1 c.in-Ok.plan plans)
    (sym c.in_ok-plans.ensures.items)
    (one_read c.args.version c.args.bytes.now c.in-Ok.plan c.requires.some
    (subst (λ (header : List ℕ). IsWholeHeader opening_walk header c.in-Ok.plan) c.header_at.ensures
    c.in-Ok.ensures.passed))

pub returns-in-Err-next_plan-clause-failed : goal.returns-in-Err-next_plan-clause-failed
returns-in-Err-next_plan-clause-failed c = λ refusal is.
    let v = c.args.version in
    let bytes = c.args.bytes.now in
    let i = c.loop-scan in
    let w = next_walk i.plan.known 0 in
    let count = c.scans_in-scan-end.ensures in
    let below : i.scan < scans_in (layout_of v) bytes = omega (arith, count) in
    let found = c.in-Err-next_plan.refusal in
    let same : found ≡ refusal = cc in
    subst (HeadersFail opening_walk (raws_as v bytes)) same
    (i.invariant.fail found (fails_at v w bytes i.scan found below
    (subst (λ (header : List ℕ). IsNoHeader w header found)
    c.header_at-in-loop-scan.ensures c.in-Err-next_plan.ensures.failed)))

pub loop-scan-preserved : goal.loop-scan-preserved
loop-scan-preserved c =
    let v = c.args.version in
    let bytes = c.args.bytes.now in
    let i = c.loop-scan in
    let count = c.scans_in-scan-end.ensures in
    let below : i.scan < scans_in (layout_of v) bytes = omega (arith, count) in
    let next = c.in-Ok-next_plan.plan in
    subst (λ (plans : List PlanFields). HaveRead v bytes (i.scan + 1) next plans)
    (sym c.put_plan.ensures) (more_read v bytes i.scan i.plan i.plans.items next below i.invariant
    (subst (λ (header : List ℕ). IsWholeHeader (next_walk i.plan.known 0) header next)
    c.header_at-in-loop-scan.ensures c.in-Ok-next_plan.ensures.passed))

pub returns-clause-passed : goal.returns-clause-passed
returns-clause-passed c =
    let v = c.args.version in
    let i = c.loop-scan in
    let count = c.scans_in-scan-end.ensures in
    let some = c.requires.some in
    let past = c.loop-scan-test.false in
    let end : i.scan ≡ scans_in (layout_of v) c.args.bytes.now = omega (arith, count, some, past) in
    all_read v c.args.bytes.now i.scan i.plan i.plans.items end i.invariant

pub next_plan-requires : goal.next_plan-requires
next_plan-requires c = c.loop-scan.invariant.known

pub put_plan-requires : goal.put_plan-requires
put_plan-requires c = c.loop-scan.invariant.room

pub returns-clause-four : goal.returns-clause-four
returns-clause-four c = c.loop-scan.invariant.room
