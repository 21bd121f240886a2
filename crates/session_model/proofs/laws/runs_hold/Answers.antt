use Rattle.session_model.proofs.Holding.{runs_begin, runs_open, runs_go_on}
use Rattle.session_model.proofs.laws.runs_hold.Goals as goal

pub returns-clause-begins : goal.returns-clause-begins
returns-clause-begins c = runs_begin

pub returns-clause-opens : goal.returns-clause-opens
returns-clause-opens c = runs_open

pub returns-clause-goes_on : goal.returns-clause-goes_on
returns-clause-goes_on c = runs_go_on c.statements_end_well.ensures.statements c.statements_end_well.ensures.evaluations
