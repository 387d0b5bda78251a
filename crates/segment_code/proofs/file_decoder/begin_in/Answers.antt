use Rattle.std.proofs.Common.{◌<◌, sym, ap, subst, ◌∙◌}
use Rattle.std.specs.Prelude.{Option}
use Rattle.jpeg_marker.specs.Plans.{PlanFields}
use Rattle.container_spec.specs.Meanings.{segment_in}
use Rattle.container_spec.specs.Segments.{Output, segment_output}
use Rattle.segment_code.specs.Decoding.{DecoderSeen, Owes}
use Rattle.segment_code.specs.FileDecoding.{is_running, mcus_left}
use Rattle.segment_code.proofs.ScanDecoders.{planned_there, plan_there, new_there, begun_more, plans_kept}
use Rattle.segment_code.proofs.file_decoder.begin_in.Goals as goal

pub returns-clause-owes : goal.returns-clause-owes
returns-clause-owes c =
    let was = planned_there c.args.decoders.now.items c.args.view.now.plan c.from.result c.args.scan
    c.index_mut-decoder.result.now c.from.ensures c.requires.plan
    c.index_mut-decoder.ensures.value in
    let plan = plan_there c.args.decoders.now.items c.args.view.now.plan c.from.result c.args.scan
    c.index_mut-decoder.result.now c.from.ensures c.requires.plan was in
    record {
      decoder = c.begin.new.self;
      there = new_there c.args.decoders.now.items c.from.result c.args.scan
          c.index_mut-decoder.result.now c.begin.new.self c.from.ensures was;
      owes = subst (λ (plan : PlanFields).
          (let output : Output = segment_output (segment_in plan c.args.view.now.parts c.args.segment) in
          Owes c.begin.new.self output.0 output.1)) plan c.begin.ensures.owes;
    }

pub returns-clause-running : goal.returns-clause-running
returns-clause-running c =
    let was = planned_there c.args.decoders.now.items c.args.view.now.plan c.from.result c.args.scan
    c.index_mut-decoder.result.now c.from.ensures c.requires.plan
    c.index_mut-decoder.ensures.value in
    ap is_running (new_there c.args.decoders.now.items c.from.result c.args.scan
    c.index_mut-decoder.result.now c.begin.new.self c.from.ensures was) ∙ c.begin.ensures.running

pub returns-clause-few : goal.returns-clause-few
returns-clause-few c =
    let was = planned_there c.args.decoders.now.items c.args.view.now.plan c.from.result c.args.scan
    c.index_mut-decoder.result.now c.from.ensures c.requires.plan
    c.index_mut-decoder.ensures.value in
    let is = new_there c.args.decoders.now.items c.from.result c.args.scan
    c.index_mut-decoder.result.now c.begin.new.self c.from.ensures was in
    subst (λ (o : Option DecoderSeen). mcus_left o < 4294967296) (sym is) c.begin.ensures.few

pub returns-clause-begun : goal.returns-clause-begun
returns-clause-begun c = λ most all.
    let was = planned_there c.args.decoders.now.items c.args.view.now.plan c.from.result c.args.scan
    c.index_mut-decoder.result.now c.from.ensures c.requires.plan
    c.index_mut-decoder.ensures.value in
    begun_more c.args.decoders.now.items c.from.result most c.index_mut-decoder.result.now
    c.begin.new.self was c.index_mut-decoder.ensures.value c.begin.ensures.begun all

pub returns-clause-plans : goal.returns-clause-plans
returns-clause-plans c =
    let was = planned_there c.args.decoders.now.items c.args.view.now.plan c.from.result c.args.scan
    c.index_mut-decoder.result.now c.from.ensures c.requires.plan
    c.index_mut-decoder.ensures.value in
    plans_kept c.args.decoders.now.items c.from.result c.index_mut-decoder.result.now
    c.begin.new.self was c.begin.ensures.plan
