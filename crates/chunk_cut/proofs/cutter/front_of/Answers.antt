use Rattle.chunk_cut.proofs.FrontsWritten.{front_is, one_given}
use Rattle.chunk_cut.proofs.cutter.front_of.Goals as goal

pub write_front-requires : goal.write_front-requires
write_front-requires c =
    one_given c.from_ref-parts.result.now c.args.parts.now c.from_ref-parts.ensures.value
    c.requires.0 c.requires.1 c.requires.2

pub returns : goal.returns
returns c =
    front_is c.from_ref-parts.result.now c.args.parts.now c.from_ref-parts.ensures.value
    c.in_ok-front.front.items c.requires.2 c.in_ok-front.ensures
