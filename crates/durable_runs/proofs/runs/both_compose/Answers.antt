use Rattle.durable_runs.proofs.Carrying.{both_join, both_of_source, both_of_replica}
use Rattle.durable_runs.proofs.runs.both_compose.Goals as goal

pub returns : goal.returns
returns c = record { join = both_join; of_source = both_of_source; of_replica = both_of_replica }
