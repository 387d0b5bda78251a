use Rattle.store_run.proofs.RunsAsRead.{runs_as_read}
use Rattle.store_run.proofs.laws.a_run_ends_as_its_input_says.Goals as goal

pub returns : goal.returns
returns g c =
    runs_as_read g.S.Source.left g.K.Sink.held g.S.Source.faults g.S.Source.full g.K.Sink.faults
    g.K.Sink.full g.P.Keeper.fault_count
