use Rattle.durable_runs.proofs.Framing.{stands_same, stands_more}
use Rattle.durable_runs.proofs.stores.sources_stand.Goals as goal

pub returns : goal.returns
returns c = record { same = stands_same; more = stands_more }
