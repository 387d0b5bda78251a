use Rattle.std.proofs.Common.{rules}
use Rattle.std.proofs.lemmas.Result.{IfOk-weaker}
use Rattle.jpeg_marker.specs.FirstWalks.{only_walk}
use Rattle.jpeg_marker.proofs.HeadersTaken.{can_scan, none_known}
use Rattle.bool_coder.proofs.FirstBits.{all_bytes}
use Rattle.container_examples.proofs.starts.plan_of.Goals as goal

pub returns : goal.returns
returns c =
    IfOk-weaker c.read_header.result _ _
    (λ plan accepted. can_scan only_walk c.args.bytes.now plan
    (all_bytes c.args.bytes.now (λ i. let h = c.type_inv.bytes i in search rules)) none_known accepted)
    c.read_header.ensures.accepted
