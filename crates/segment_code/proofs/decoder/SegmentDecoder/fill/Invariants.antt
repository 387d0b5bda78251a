use Rattle.std.proofs.Common.{◌≡◌, ℕ, ◌<◌, ◌≤◌, length}
use Rattle.container_spec.specs.Segments.{Progress, SegmentFields}
use Rattle.segment_code.specs.DecodedPieces.{IsWithin, IsBegunPiece}
use Rattle.segment_code.proofs.decoder.SegmentDecoder.fill.Given as goal

abbrev pub invariant-loop-self : goal.invariant-loop-self
invariant-loop-self l = record {
  filled : (s : SegmentFields) (left : ℕ) (at : Progress) → IsWithin l.fn.self s left at
      → IsBegunPiece s left at l.out l.self;
  most : l.self.left ≤ l.fn.self.left;
  fewer : 0 < length l.out → l.self.left < l.fn.self.left;
  given : l.self.given ≡ l.fn.self.given;
  number : l.self.number ≡ l.fn.self.number;
  begun : l.self.begun ≡ l.fn.self.begun;
  plan : l.self.plan ≡ l.fn.self.plan;
}

abbrev pub decreases-loop-self : goal.decreases-loop-self
decreases-loop-self l = l.self.left
