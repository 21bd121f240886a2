use Rattle.sql_reach.proofs.Closed.{closed_well, closed_deep}
use Rattle.sql_reach.proofs.laws.closed_is_well.Goals as goal

pub returns-clause-well : goal.returns-clause-well
returns-clause-well c = closed_well

pub returns-clause-depth : goal.returns-clause-depth
returns-clause-depth c = closed_deep
