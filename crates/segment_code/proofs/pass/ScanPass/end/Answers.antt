use Rattle.std.proofs.Common.{ℕ, ap, ◌∙◌, sym, subst}
use Rattle.segment_code.specs.FileStarts.{StartsFields}
use Rattle.segment_code.specs.PassInside.{pass_in}
use Rattle.segment_code.specs.Starting.{AreStarts}
use Rattle.scan_spec.specs.Pads.{spelling_of}
use Rattle.segment_code.proofs.PassesOn.{then_ended}
use Rattle.segment_code.proofs.pass.ScanPass.end.Goals as goal

pub returns : goal.returns
returns c =
    let p = c.args.self in
    let q = pass_in c.self.inside in
    let ended = c.in_ok-end.ensures ∙ ap (λ (n : ℕ). record q.starts {
      pads = spelling_of q.pads.bits q.pads.sum;
      trailer = n;
    }) c.end.ensures in
    subst (λ (s : StartsFields). AreStarts p.plan p.bytes p.most s) (sym ended)
    (then_ended q p c.self.view_is c.requires.pass c.requires.none)
