use Rattle.std.proofs.Common.{refl}
use Rattle.sql_reach.specs.Reach.{writes}
use Rattle.sql_reach.specs.Reasons.{reasons}
use Rattle.sql_reach.specs.Carrying.{carried}
use Rattle.sql_reach.specs.Closing.{closed}
use Rattle.sql_reach.proofs.worked.unsafe_statements.Goals as goal

pub returns-clause-safe : goal.returns-clause-safe
unfolding writes reasons carried closed
returns-clause-safe c = refl

pub returns-clause-reached : goal.returns-clause-reached
unfolding writes reasons carried closed
returns-clause-reached c = refl

pub returns-clause-drawn : goal.returns-clause-drawn
unfolding writes reasons carried closed
returns-clause-drawn c = refl

pub returns-clause-by_trigger : goal.returns-clause-by_trigger
unfolding writes reasons carried closed
returns-clause-by_trigger c = refl

pub returns-clause-other_event : goal.returns-clause-other_event
unfolding writes reasons carried closed
returns-clause-other_event c = refl

pub returns-clause-limit : goal.returns-clause-limit
unfolding writes reasons carried closed
returns-clause-limit c = refl

pub returns-clause-own_counter : goal.returns-clause-own_counter
unfolding writes reasons carried closed
returns-clause-own_counter c = refl

pub returns-clause-selected : goal.returns-clause-selected
unfolding writes reasons carried closed
returns-clause-selected c = refl

pub returns-clause-replaced : goal.returns-clause-replaced
unfolding writes reasons carried closed
returns-clause-replaced c = refl
