use Rattle.durable_runs.specs.Replicas.{replica_side}
use Rattle.durable_runs.specs.Sources.{source_side}
use Rattle.durable_runs.proofs.Composing.{compose}
use Rattle.durable_runs.proofs.runs.runs_compose.Goals as goal

pub returns-clause-source : goal.returns-clause-source
returns-clause-source c = compose source_side

pub returns-clause-replica : goal.returns-clause-replica
returns-clause-replica c = compose replica_side
