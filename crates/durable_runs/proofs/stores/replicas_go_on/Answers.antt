use Rattle.durable_runs.proofs.Carrying.{replicas_rise, served_runs, served_more, served_join}
use Rattle.durable_runs.proofs.stores.replicas_go_on.Goals as goal

pub returns-clause-rises : goal.returns-clause-rises
returns-clause-rises c = replicas_rise

pub returns-clause-served : goal.returns-clause-served
returns-clause-served c = record { runs = served_runs; more = served_more; join = served_join }
