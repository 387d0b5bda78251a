use Rattle.command_words.proofs.RowLemmas.{meaningless_rows, means_rows}
use Rattle.command_words.proofs.laws.rows_of_words.Goals as goal

pub returns-clause-meant : goal.returns-clause-meant
returns-clause-meant c = means_rows

pub returns-clause-meaningless : goal.returns-clause-meaningless
returns-clause-meaningless c = meaningless_rows
