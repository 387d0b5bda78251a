use Rattle.std.proofs.Common.{ℕ, ◌≤◌, ◌*◌, ◌/◌, ◌^◌, ◌∙◌, ap, subst, length}
use Rattle.std.specs.Prelude.{max, min}
use Rattle.box_format.specs.Containers.{segment_count}
use Rattle.lepton_decode.proofs.RingSizes.{rings_of}
use Rattle.lepton_decode.proofs.ready.ample_ring.Goals as goal

pub returns-clause-all : goal.returns-clause-all
returns-clause-all c = λ scans of.
    let count = c.max.ensures ∙ ap (λ n. max n 1) (c.segments_named.ensures scans of) in
    rings_of c.ring_for.result (length c.args.bytes.now) (segment_count scans) c.max.result count
    c.ring_for.ensures.all

pub returns-clause-share : goal.returns-clause-share
returns-clause-share c = λ scans of.
    let count = c.max.ensures ∙ ap (λ n. max n 1) (c.segments_named.ensures scans of) in
    subst (λ (n : ℕ). min (length c.args.bytes.now / n * 2) (2 ^ 26) ≤ c.ring_for.result) count
    c.ring_for.ensures.share
