use Rattle.std.proofs.Common.{◌≡◌, ◌-◌, ◌∷◌, length, get_or, take, drop, arith, ap, ◌∙◌}
use Rattle.jpeg_marker.proofs.SegmentTexts.{prefix_is, fill_more, stuck_more}
use Rattle.jpeg_marker.proofs.segment.skip_fill.Goals as goal

pub loop-rest-preserved : goal.loop-rest-preserved
loop-rest-preserved c =
    let i = c.loop-rest.invariant in
    let rest = c.loop-rest.rest.now in
    let byte : get_or rest 0 0 ≡ 255 = omega arith in
    let is : rest ≡ 255 ∷ take (length rest - 1) (drop 1 rest) = prefix_is rest c.in-255.len_at_least ∙ ap (λ b. b ∷ take (length rest - 1) (drop 1 rest)) byte in
    let size = ap length is in
    record {
      stuck = stuck_more rest _ c.loop-rest.here is ∙ i.stuck;
      fill = fill_more _ rest _ _ c.loop-rest.here i.after is i.fill;
      after = omega arith;
      room = omega arith;
    }
