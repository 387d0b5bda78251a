use Rattle.sample_jpeg.proofs.DrawnTurns.{mcu_puts, never_stops}
use Rattle.sample_jpeg.proofs.file.put_mcu.Goals as goal

pub unreachable-requires : goal.unreachable-requires
unreachable-requires c =
    never_stops c.args.writer.now _ c.args.draws.now.state _ _ _ c.mcu.result c.in-Err.field-0 c.mcu-mcu.ensures.value c.requires.way c.in-Err.is
    c.mcu.ensures

pub returns-clause-puts : goal.returns-clause-puts
returns-clause-puts c =
    mcu_puts c.args.writer.now _ c.args.draws.now.state _ _ _ _ _ _ c.mcu.result c.in-Ok.field-0 c.mcu-mcu.ensures.value c.requires.way
    c.requires.empty c.in-Ok.is c.mcu.ensures c.bytes.ensures.bytes c.in_ok-extend_from_slice.ensures.items
