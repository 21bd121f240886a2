use Rattle.durable_runs.specs.Replicas.{replica_side}
use Rattle.durable_runs.specs.Sources.{source_side}
use Rattle.durable_runs.proofs.Composing.{last}
use Rattle.durable_runs.proofs.runs.runs_last.Goals as goal

pub returns-clause-source : goal.returns-clause-source
returns-clause-source c = last source_side

pub returns-clause-replica : goal.returns-clause-replica
returns-clause-replica c = last replica_side
