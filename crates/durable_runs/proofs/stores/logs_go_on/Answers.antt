use Rattle.durable_runs.proofs.Storing.{added_append}
use Rattle.durable_runs.proofs.OneLog.{one_log, first_log}
use Rattle.durable_runs.proofs.stores.logs_go_on.Goals as goal

pub returns-clause-goes_on : goal.returns-clause-goes_on
returns-clause-goes_on c = added_append

pub returns-clause-one : goal.returns-clause-one
returns-clause-one c = record { within = one_log; first = first_log }
