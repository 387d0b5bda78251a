use Rattle.scan_spec.proofs.DoneBytes.{done_whole, done_in_parts, done_in_order}
use Rattle.scan_spec.proofs.laws.first_mcus_are_first_bytes.Goals as goal

pub returns : goal.returns
returns c = record { whole = done_whole; parts = done_in_parts; order = done_in_order }
