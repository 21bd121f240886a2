use Rattle.durable_runs.proofs.Counting.{kept_is_run, early_is_none, late_is_none}
use Rattle.durable_runs.proofs.worked.runs_by_hand.Goals as goal

pub returns-clause-kept : goal.returns-clause-kept
returns-clause-kept c = kept_is_run

pub returns-clause-early : goal.returns-clause-early
returns-clause-early c = early_is_none

pub returns-clause-late : goal.returns-clause-late
returns-clause-late c = late_is_none
