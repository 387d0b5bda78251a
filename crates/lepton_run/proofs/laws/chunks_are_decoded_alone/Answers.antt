use Rattle.lepton_run.proofs.ChunksBack.{chunk_undone, chunks_joined}
use Rattle.lepton_run.proofs.laws.chunks_are_decoded_alone.Goals as goal

pub returns-clause-slice : goal.returns-clause-slice
returns-clause-slice c = chunk_undone

pub returns-clause-joined : goal.returns-clause-joined
returns-clause-joined c = chunks_joined
