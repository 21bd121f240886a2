use Rattle.commit_store.proofs.Elsewhere.{logs_may_grow, fetched_may_change}
use Rattle.commit_store.proofs.laws.other_files_leave_the_store.Goals as goal

pub returns-clause-logs : goal.returns-clause-logs
returns-clause-logs c = logs_may_grow

pub returns-clause-fetched : goal.returns-clause-fetched
returns-clause-fetched c = fetched_may_change
