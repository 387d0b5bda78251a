use Rattle.std.proofs.Common.{ℕ, List, Bool, sym, subst, ◌∙◌}
use Rattle.bool_coder.specs.DecoderSeen.{Reads}
use Rattle.segment_code.specs.Decoding.{DecoderSeen}
use Rattle.segment_code.proofs.SegmentEnds.{TellsExact, ends_with_seam, ends_with_stream, ends_with_place, no_cause}
use Rattle.segment_code.proofs.decoder.SegmentDecoder.last_cause.Goals as goal

pub returns-then-is_some : goal.returns-then-is_some
returns-then-is_some c = λ s at is.
    ends_with_seam c.args.self.now s 0 at c.seam-seam.result is (sym c.seam-seam.ensures)
    (sym c.is_some.ensures ∙ c.if-is_some.true)

pub returns-then-exact : goal.returns-then-exact
returns-then-exact c = λ s at is.
    ends_with_place c.args.self.now s 0 at c.exact.result c.misplaced.result is (record {
      same = no_cause _ _ (sym c.seam-seam.ensures) (sym c.is_some.ensures ∙ c.if-is_some.false);
      tells =
          subst (λ (d : DecoderSeen). (bools : List (ℕ × Bool)) → Reads bools d.coder.decoder
          → TellsExact c.exact.result d.coder.decoder.bytes bools) c.self.view_is c.exact.ensures;
    }) c.if-exact.true c.misplaced.ensures

pub returns-else-exact : goal.returns-else-exact
returns-else-exact c = λ s at is.
    ends_with_stream c.args.self.now s 0 at c.exact.result is (record {
      same = no_cause _ _ (sym c.seam-seam.ensures) (sym c.is_some.ensures ∙ c.if-is_some.false);
      tells =
          subst (λ (d : DecoderSeen). (bools : List (ℕ × Bool)) → Reads bools d.coder.decoder
          → TellsExact c.exact.result d.coder.decoder.bytes bools) c.self.view_is c.exact.ensures;
    }) c.if-exact.false
