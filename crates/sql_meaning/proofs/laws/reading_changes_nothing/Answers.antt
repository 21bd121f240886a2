use Rattle.sql_meaning.proofs.Quiet.{selects_still, dos_still, evaluations_still, absent_calls_still}
use Rattle.sql_meaning.proofs.laws.reading_changes_nothing.Goals as goal

pub returns-clause-selects : goal.returns-clause-selects
returns-clause-selects c = selects_still

pub returns-clause-dos : goal.returns-clause-dos
returns-clause-dos c = dos_still

pub returns-clause-evaluations : goal.returns-clause-evaluations
returns-clause-evaluations c = evaluations_still

pub returns-clause-functions : goal.returns-clause-functions
returns-clause-functions c = absent_calls_still
