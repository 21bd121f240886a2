use Rattle.durable_runs.proofs.Storing.{held_append, records_lead}
use Rattle.durable_runs.proofs.stores.held_goes_on.Goals as goal

pub returns-clause-goes_on : goal.returns-clause-goes_on
returns-clause-goes_on c = held_append

pub returns-clause-records : goal.returns-clause-records
returns-clause-records c = records_lead
