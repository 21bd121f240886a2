use Rattle.std.proofs.Common.{refl}
use Rattle.sql_reach.specs.Reach.{writes}
use Rattle.sql_reach.specs.Reasons.{reasons}
use Rattle.sql_reach.specs.Carrying.{carried}
use Rattle.sql_reach.specs.Closing.{closed}
use Rattle.sql_reach.proofs.worked.carried_parts.Goals as goal

pub returns-clause-nothing : goal.returns-clause-nothing
unfolding writes reasons carried closed
returns-clause-nothing c = refl

pub returns-clause-all : goal.returns-clause-all
unfolding writes reasons carried closed
returns-clause-all c = refl
