use Rattle.std.proofs.Common.{rules, arith}
use Rattle.std.proofs.lemmas.Grind.{common_steps}
use Rattle.jpeg_marker.specs.Frames.{no_part}
use Rattle.jpeg_marker.proofs.Chosen.{blank_more}
use Rattle.jpeg_marker.proofs.frame.list_parts.Goals as goal

pub loop-rest-preserved : goal.loop-rest-preserved
loop-rest-preserved c =
    let i = c.loop-rest.invariant in
    record {
      room = search rules;
      parts = grind (arith, common_steps);
      ids = grind (arith, common_steps);
      parts_size = search rules;
      blank = blank_more c.loop-rest.parts c.loop-rest.count _ no_part i.parts_size (let r = i.room in let n = c.requires in let l = c.in-len3-up.len_at_least in omega arith) i.blank;
      ids_size = search rules;
    }
