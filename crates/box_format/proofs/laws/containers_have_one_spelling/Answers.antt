use Rattle.box_format.proofs.ScansPassed.{container_passes}
use Rattle.box_format.proofs.ScansOfBytes.{passed_is_container}
use Rattle.box_format.proofs.Spelling.{one_list_of_scans, one_refusal, never_both}
use Rattle.box_format.proofs.laws.containers_have_one_spelling.Goals as goal

pub returns-clause-pass : goal.returns-clause-pass
returns-clause-pass c = container_passes

pub returns-clause-passed : goal.returns-clause-passed
returns-clause-passed c = passed_is_container

pub returns-clause-one : goal.returns-clause-one
returns-clause-one c = one_list_of_scans

pub returns-clause-refusal : goal.returns-clause-refusal
returns-clause-refusal c = one_refusal

pub returns-clause-apart : goal.returns-clause-apart
returns-clause-apart c = never_both
