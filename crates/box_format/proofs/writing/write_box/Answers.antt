use Rattle.std.proofs.Common.{[], ◌∷◌, refl, ap, sym}
use Rattle.box_format.specs.Given.{all_given, parts_given}
use Rattle.box_format.specs.Parts.{BoxSeen}
use Rattle.box_format.specs.Single.{box_bytes}
use Rattle.box_format.proofs.Singles.{one_is_container}
use Rattle.box_format.proofs.writing.write_box.Goals as goal

pub write_container-requires : goal.write_container-requires
write_container-requires c =
    let b = parts_given c.args.parts.now in
    let s : BoxSeen = record { plan = c.requires.parts.0; parts = b } in
    (s ∷ [], (one_is_container s (box_bytes b) (record { box = c.requires.parts.1; one = c.requires.one; text = refl })).are, sym (ap all_given c.from_ref.ensures.value))
