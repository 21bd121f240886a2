use Rattle.durable_source.proofs.Restarting.{looked_runs}
use Rattle.durable_source.proofs.source.DurableSource.log_bytes.Goals as goal

pub returns-clause-runs : goal.returns-clause-runs
returns-clause-runs g c from m stands marks = looked_runs _ c.args.self.now from m stands _ marks c.log_bytes.ensures.quiet
