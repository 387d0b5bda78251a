use Rattle.std.proofs.Common.{◌≡◌, ◌<◌, ◌+◌, ℕ, drop, length, sym, ap, ◌∙◌, arith}
use Rattle.std.specs.Prelude.{Option}
use Rattle.std.specs.Option.{option_or}
use Rattle.box_format.specs.declared.refusal.BoxRefusal.{BoxRefusal}
use Rattle.box_format.specs.Versions.{layout_of}
use Rattle.box_format.specs.Fields.{scan_raw, scans_in, segments_at}
use Rattle.box_format.specs.Checks.{scans_fault}
use Rattle.box_format.proofs.RawParts.{raws_from}
use Rattle.box_format.proofs.ScansFaults.{fault_next, handover_count, plan_next, segments_next}
use Rattle.box_format.proofs.checks.scans_fault.Goals as goal

pub scan_fault-requires-clause-few : goal.scan_fault-requires-clause-few
scan_fault-requires-clause-few c =
    let bytes = c.args.bytes.now in
    let j = c.loop-scan.scan in
    let end = c.scans_in-scan-end.ensures in
    let below : j < scans_in (layout_of c.args.version) bytes = omega (arith, end) in
    let next = segments_next c.args.version bytes j below in
    let count = c.loop-scan.invariant.count in
    let few = c.requires.few in
    omega (arith, next, count, few)

pub returns-in-Some : goal.returns-in-Some
returns-in-Some c =
    let bytes = c.args.bytes.now in
    let plans = c.args.plans.now in
    let first = c.loop-scan.first in
    let j = c.loop-scan.scan in
    let end = c.scans_in-scan-end.ensures in
    let long = c.requires.count in
    let below : j < scans_in (layout_of c.args.version) bytes = omega (arith, end) in
    let there : j < length plans = omega (arith, end, long) in
    let plan = c.index-plans-from.result in
    let rest = drop (j + 1) plans in
    sym (fault_next c.args.version bytes plan (drop j plans) rest first j below
    (plan_next plans j c.from.result plan there c.from.ensures c.index-plans-from.is)
    ∙ ap (λ (o : Option BoxRefusal). option_or o
    (scans_fault (first + length (scan_raw c.args.version bytes j).handovers) rest (raws_from c.args.version bytes (j + 1))))
    (sym c.scan_fault.ensures ∙ c.in-Some.is)) ∙ c.loop-scan.invariant.left

pub overflow_add-first : goal.overflow_add-first
overflow_add-first c =
    let bytes = c.args.bytes.now in
    let j = c.loop-scan.scan in
    let end = c.scans_in-scan-end.ensures in
    let below : j < scans_in (layout_of c.args.version) bytes = omega (arith, end) in
    let next = segments_next c.args.version bytes j below in
    let here = handover_count c.args.version bytes j in
    let more = c.segments_at-first.ensures ∙ ap (segments_at bytes) c.fields_place.ensures.value in
    let count = c.loop-scan.invariant.count in
    let few = c.requires.few in
    let h : c.loop-scan.first + c.segments_at-first.result < 256 =
    omega (arith, next, here, more, count, few) in
    omega arith

pub loop-scan-preserved : goal.loop-scan-preserved
loop-scan-preserved c =
    let bytes = c.args.bytes.now in
    let plans = c.args.plans.now in
    let first = c.loop-scan.first in
    let j = c.loop-scan.scan in
    let end = c.scans_in-scan-end.ensures in
    let long = c.requires.count in
    let below : j < scans_in (layout_of c.args.version) bytes = omega (arith, end) in
    let there : j < length plans = omega (arith, end, long) in
    let plan = c.index-plans-from.result in
    let rest = drop (j + 1) plans in
    let next = segments_next c.args.version bytes j below in
    let here = handover_count c.args.version bytes j in
    let more = c.segments_at-first.ensures ∙ ap (segments_at bytes) c.fields_place.ensures.value in
    let count = c.loop-scan.invariant.count in
    let same : length (scan_raw c.args.version bytes j).handovers ≡ c.segments_at-first.result = here ∙ sym more in
    record {
      count = omega (arith, next, here, more, count);
      left = ap (λ (n : ℕ). scans_fault (first + n) rest (raws_from c.args.version bytes (j + 1))) (sym same)
          ∙ sym (fault_next c.args.version bytes plan (drop j plans) rest first j below
          (plan_next plans j c.from.result plan there c.from.ensures c.index-plans-from.is)
          ∙ ap (λ (o : Option BoxRefusal). option_or o
          (scans_fault (first + length (scan_raw c.args.version bytes j).handovers) rest (raws_from c.args.version bytes (j + 1))))
          (sym c.scan_fault.ensures ∙ c.in_default.is)) ∙ c.loop-scan.invariant.left;
    }
