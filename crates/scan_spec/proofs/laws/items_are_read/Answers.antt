use Rattle.scan_spec.proofs.ItemsRead.{refused_so, ends_so}
use Rattle.scan_spec.proofs.ItemsOnce.{one_outcome, is_longest}
use Rattle.scan_spec.proofs.laws.items_are_read.Goals as goal

pub returns-clause-refused : goal.returns-clause-refused
returns-clause-refused c = refused_so

pub returns-clause-ended : goal.returns-clause-ended
returns-clause-ended c = ends_so

pub returns-clause-once : goal.returns-clause-once
returns-clause-once c = one_outcome

pub returns-clause-longest : goal.returns-clause-longest
returns-clause-longest c = is_longest
