use Rattle.durable_runs.proofs.Owing.{nothing_is_owed}
use Rattle.durable_runs.proofs.stores.nothing_owed.Goals as goal

pub returns : goal.returns
returns c = nothing_is_owed
