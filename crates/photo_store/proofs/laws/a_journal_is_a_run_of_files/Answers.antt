use Rattle.photo_store.proofs.FileRuns.{journal_is_a_run}
use Rattle.photo_store.proofs.laws.a_journal_is_a_run_of_files.Goals as goal

pub returns : goal.returns
returns c = journal_is_a_run
