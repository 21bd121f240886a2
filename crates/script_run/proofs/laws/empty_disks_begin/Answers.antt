use Rattle.script_run.proofs.Beginning.{empty_begins}
use Rattle.script_run.proofs.laws.empty_disks_begin.Goals as goal

pub returns : goal.returns
returns c = empty_begins c.runs_open.ensures.nothing
