use Rattle.store_run.proofs.OneReading.{one_reading}
use Rattle.store_run.proofs.laws.an_input_has_one_reading.Goals as goal

pub returns : goal.returns
returns c = one_reading
