use Rattle.where_keys.proofs.Named.{named_keys_are_enough}
use Rattle.where_keys.proofs.Uniques.{named_unique_keys_are_enough}
use Rattle.where_keys.proofs.laws.named_keys_are_enough.Goals as goal

pub returns-clause-primary : goal.returns-clause-primary
returns-clause-primary c = named_keys_are_enough

pub returns-clause-unique : goal.returns-clause-unique
returns-clause-unique c = named_unique_keys_are_enough
