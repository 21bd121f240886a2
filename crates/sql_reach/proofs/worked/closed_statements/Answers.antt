use Rattle.std.proofs.Common.{refl}
use Rattle.sql_reach.specs.Reach.{writes}
use Rattle.sql_reach.specs.Reasons.{reasons}
use Rattle.sql_reach.specs.Carrying.{carried}
use Rattle.sql_reach.specs.Closing.{closed}
use Rattle.sql_reach.proofs.worked.closed_statements.Goals as goal

pub returns-clause-inserted : goal.returns-clause-inserted
unfolding writes reasons carried closed
returns-clause-inserted c = refl

pub returns-clause-updated : goal.returns-clause-updated
unfolding writes reasons carried closed
returns-clause-updated c = refl

pub returns-clause-limited : goal.returns-clause-limited
unfolding writes reasons carried closed
returns-clause-limited c = refl

pub returns-clause-last_counts : goal.returns-clause-last_counts
unfolding writes reasons carried closed
returns-clause-last_counts c = refl
