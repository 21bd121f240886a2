use Rattle.durable_runs.proofs.Storing.{stored_some, stored_is, stored_rises}
use Rattle.durable_runs.proofs.stores.stores_go_on.Goals as goal

pub returns : goal.returns
returns c = record { some = stored_some; is = stored_is; rises = stored_rises }
