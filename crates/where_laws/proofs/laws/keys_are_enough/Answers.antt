use Rattle.where_laws.proofs.Single.{keys_are_enough, unique_keys_are_enough}
use Rattle.where_laws.proofs.laws.keys_are_enough.Goals as goal

pub returns-clause-primary : goal.returns-clause-primary
returns-clause-primary c = keys_are_enough

pub returns-clause-unique : goal.returns-clause-unique
returns-clause-unique c = unique_keys_are_enough
