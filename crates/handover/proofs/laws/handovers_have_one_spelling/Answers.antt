use Rattle.handover.proofs.FieldBytes.{fields_again, bytes_again, test_is_exact}
use Rattle.handover.proofs.laws.handovers_have_one_spelling.Goals as goal

pub returns-clause-fields : goal.returns-clause-fields
returns-clause-fields c = fields_again

pub returns-clause-bytes : goal.returns-clause-bytes
returns-clause-bytes c = bytes_again

pub returns-clause-test : goal.returns-clause-test
returns-clause-test c = test_is_exact
