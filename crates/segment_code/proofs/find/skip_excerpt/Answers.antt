use Rattle.segment_code.proofs.PadsOn.{excerpt_through}
use Rattle.segment_code.proofs.find.skip_excerpt.Goals as goal

pub returns-then-mcus-left-clause-pads : goal.returns-then-mcus-left-clause-pads
returns-then-mcus-left-clause-pads c = λ is pads.
    let read = c.skip_excerpt.ensures.read is in
    excerpt_through c.args.excerpt.now.mcus c.args.reader.now c.skip_excerpt.new.self read.0 pads
    c.requires.is.whole (c.skip_excerpt.ensures.meets is).more
    (record { read = read.1; same = c.skip_excerpt.ensures.same })
