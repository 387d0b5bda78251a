use Rattle.std.proofs.Common.{◌++◌, ℕ, List, sym, ap, arith}
use Rattle.container_spec.specs.Meanings.{segment_in}
use Rattle.container_spec.specs.Segments.{Output, segment_output}
use Rattle.segment_code.proofs.FaultNumbers.{faults_counted_on}
use Rattle.segment_code.proofs.ScanDecoders.{some_left}
use Rattle.segment_code.proofs.file_decoder.FileDecoder.begin_scan.Goals as goal

pub invariant_of-self : goal.invariant_of-self
invariant_of-self c = c.begin_in.ensures.begun c.self.inside.begun c.self.invariant

pub returns-clause-owes : goal.returns-clause-owes
returns-clause-owes c =
    let s = segment_in c.args.view.now.plan c.args.view.now.parts c.args.segment in
    let output : Output = segment_output s in
    let left = some_left c.begin_in.new.decoders.items c.args.scan output.0 output.1
    c.begin_in.ensures.owes in
    record {
      rest = output.0;
      ending = output.1;
      owes = c.begin_in.ensures.owes;
      bytes_are = ap (λ (l : List ℕ). l ++ output.0) (sym c.lead_before-self-inside.ensures.bytes);
      outcome_is = faults_counted_on c.args.before s;
      some = omega (arith, left);
    }
