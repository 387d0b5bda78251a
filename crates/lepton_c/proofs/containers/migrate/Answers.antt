use Rattle.std.proofs.Common.{subst, sym}
use Rattle.lepton_c.specs.Gives.{IsMigrated, MigrateRefuses}
use Rattle.lepton_c.proofs.Made.{gives_made}
use Rattle.lepton_c.proofs.containers.migrate.Goals as goal

pub returns-in-Ok : goal.returns-in-Ok
returns-in-Ok c =
    gives_made (IsMigrated c.args.bytes.now) (MigrateRefuses c.args.bytes.now) c.args.out.now
    c.put_made.new.out c.as_slice.result.now c.put_made.result
    (subst (IsMigrated c.args.bytes.now) (sym c.as_slice.ensures.value) c.in-Ok.ensures.made)
    c.put_made.ensures
