use Rattle.where_laws.proofs.Enough.{facts_are_enough, ranges_are_enough, values_are_enough}
use Rattle.where_laws.proofs.laws.facts_are_enough.Goals as goal

pub returns-clause-facts : goal.returns-clause-facts
returns-clause-facts c = facts_are_enough

pub returns-clause-ranges : goal.returns-clause-ranges
returns-clause-ranges c = ranges_are_enough

pub returns-clause-values : goal.returns-clause-values
returns-clause-values c = values_are_enough
