use Rattle.std.proofs.Common.{◌≡◌, ◌+◌, ◌-◌, ◌∷◌, length, get_or, take, drop, arith, ap, ◌∙◌}
use Rattle.jpeg_marker.proofs.SegmentTexts.{prefix_is, stands_text}
use Rattle.jpeg_marker.proofs.segment.segment_at.Goals as goal

pub returns-clause-whole : goal.returns-clause-whole
returns-clause-whole c =
    let bytes = c.args.bytes.now in
    let marked = c.skip_fill-place.result.0.now in
    let byte : get_or bytes 0 0 ≡ 255 = omega arith in
    let first : bytes ≡ 255 ∷ take (length bytes - 1) (drop 1 bytes) = prefix_is bytes (omega arith) ∙ ap (λ b. b ∷ take (length bytes - 1) (drop 1 bytes)) byte in
    let coded : marked ≡ get_or marked 0 0 ∷ take (length marked - 1) (drop 1 marked) = prefix_is marked (omega arith) in
    record {
      fill = c.skip_fill-place.result.1 - (c.args.place + 1);
      length_at = omega arith;
      whole = record { known = c.in_ok-check_code.ensures.known; fits = c.in_ok-body.ensures.fits };
      text = stands_text bytes _ marked _ c.in_ok-body.body.now c.in_ok-body.rest.now (c.skip_fill-place.result.1 - (c.args.place + 1)) _ _ first c.skip_fill-place.ensures.fill coded c.in_ok-body.ensures.text;
    }
