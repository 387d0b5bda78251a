use Rattle.std.proofs.Common.{◌<◌, List, take, sym, ap, ◌∙◌, arith}
use Rattle.std.specs.Prelude.{Some, slice_get}
use Rattle.box_format.specs.Versions.{layout_of}
use Rattle.box_format.specs.Parts.{BoxSeen}
use Rattle.box_format.specs.Fields.{raws_as, scans_in}
use Rattle.box_format.proofs.FilesViewed.{count_is, plan_got, scan_at}
use Rattle.box_format.proofs.files.FileView.scan.Goals as goal

pub scan_view-requires-clause-scan : goal.scan_view-requires-clause-scan
scan_view-requires-clause-scan c =
    let i = c.self.inside in
    let plans = take i.count i.plans.items in
    let few = c.self.invariant.few in
    let room = c.self.invariant.room in
    let count = count_is i.plans.items (raws_as i.version i.bytes.now) c.args.self.now i.count
    c.self.invariant.passed c.self.view_is (omega (arith, few, room)) in
    let all = c.self.invariant.scans in
    let within = c.requires in
    let below : c.args.scan < scans_in (layout_of i.version) i.bytes.now =
    omega (arith, count, all, within) in
    below

pub scan_view-requires-clause-is : goal.scan_view-requires-clause-is
scan_view-requires-clause-is c =
    let i = c.self.inside in
    let plans = take i.count i.plans.items in
    let few = c.self.invariant.few in
    let room = c.self.invariant.room in
    let count = count_is i.plans.items (raws_as i.version i.bytes.now) c.args.self.now i.count
    c.self.invariant.passed c.self.view_is (omega (arith, few, room)) in
    let all = c.self.invariant.scans in
    let within = c.requires in
    let below : c.args.scan < scans_in (layout_of i.version) i.bytes.now =
    omega (arith, count, all, within) in
    let here = scan_at i.version plans i.bytes.now c.args.scan c.index-plans-from.result
    c.self.invariant.is below (plan_got plans (raws_as i.version i.bytes.now) c.args.self.now
    c.plans.result.now c.args.scan c.from.result c.index-plans-from.result c.self.invariant.passed
    c.self.view_is c.plans.ensures c.from.ensures c.requires c.index-plans-from.is) in
    here.is

pub returns : goal.returns
returns c =
    let i = c.self.inside in
    let plans = take i.count i.plans.items in
    let few = c.self.invariant.few in
    let room = c.self.invariant.room in
    let count = count_is i.plans.items (raws_as i.version i.bytes.now) c.args.self.now i.count
    c.self.invariant.passed c.self.view_is (omega (arith, few, room)) in
    let all = c.self.invariant.scans in
    let within = c.requires in
    let below : c.args.scan < scans_in (layout_of i.version) i.bytes.now =
    omega (arith, count, all, within) in
    let here = scan_at i.version plans i.bytes.now c.args.scan c.index-plans-from.result
    c.self.invariant.is below (plan_got plans (raws_as i.version i.bytes.now) c.args.self.now
    c.plans.result.now c.args.scan c.from.result c.index-plans-from.result c.self.invariant.passed
    c.self.view_is c.plans.ensures c.from.ensures c.requires c.index-plans-from.is) in
    ap (λ (l : List BoxSeen). slice_get l c.args.scan) (sym c.self.view_is) ∙ here.got
    ∙ ap (λ (s : BoxSeen). Some s) (sym c.scan_view.ensures)
