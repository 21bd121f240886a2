use Rattle.script_run.proofs.Logged.{logged_each, opening_refused}
use Rattle.script_run.proofs.logging.log_commands.Goals as goal

pub returns-in-Ok-clause-logged : goal.returns-in-Ok-clause-logged
returns-in-Ok-clause-logged g c = logged_each c.log_of_all.result _ _ _ _ _ _ _ c.in-Ok.ensures.opened c.log_of_all.ensures.logged

pub returns-in-Err-clause-stop : goal.returns-in-Err-clause-stop
returns-in-Err-clause-stop g c = rw c.status_by.ensures (opening_refused c.in-Err.refusal _ _ _ c.in-Err.ensures.refuses)
