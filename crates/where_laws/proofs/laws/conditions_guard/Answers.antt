use Rattle.where_laws.proofs.Known.{nothing_guards, wholes_guard, quiets_guard, fronts_guard}
use Rattle.where_laws.proofs.laws.conditions_guard.Goals as goal

pub returns-clause-nothing : goal.returns-clause-nothing
returns-clause-nothing c = nothing_guards

pub returns-clause-wholes : goal.returns-clause-wholes
returns-clause-wholes c = wholes_guard

pub returns-clause-quiets : goal.returns-clause-quiets
returns-clause-quiets c = quiets_guard

pub returns-clause-fronts : goal.returns-clause-fronts
returns-clause-fronts c = fronts_guard
