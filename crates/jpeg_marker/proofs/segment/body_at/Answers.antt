use Rattle.std.proofs.Common.{arith}
use Rattle.jpeg_marker.proofs.SegmentTexts.{body_text}
use Rattle.jpeg_marker.proofs.segment.body_at.Goals as goal

pub returns-clause-text : goal.returns-clause-text
returns-clause-text c = body_text c.args.bytes.now c.from-counted.result (λ i. omega (arith, c.type_inv.bytes i)) (omega arith) (omega arith) (omega (arith, c.number_at.ensures, c.from-counted.ensures))
