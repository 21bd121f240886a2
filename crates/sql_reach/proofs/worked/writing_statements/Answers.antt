use Rattle.std.proofs.Common.{refl}
use Rattle.sql_reach.specs.Reach.{writes}
use Rattle.sql_reach.specs.Reasons.{reasons}
use Rattle.sql_reach.specs.Carrying.{carried}
use Rattle.sql_reach.specs.Closing.{closed}
use Rattle.sql_reach.proofs.worked.writing_statements.Goals as goal

pub returns-clause-changes : goal.returns-clause-changes
unfolding writes reasons carried closed
returns-clause-changes c = refl

pub returns-clause-calls : goal.returns-clause-calls
unfolding writes reasons carried closed
returns-clause-calls c = refl
