use Rattle.session_model.proofs.Leaving.{errors_leave_all, definitions_leave_all}
use Rattle.session_model.proofs.Staying.{steps_leave_all, calls_keep_steps}
use Rattle.session_model.proofs.laws.errors_leave_all.Goals as goal

pub returns-clause-statements : goal.returns-clause-statements
returns-clause-statements c = errors_leave_all

pub returns-clause-definitions : goal.returns-clause-definitions
returns-clause-definitions c = definitions_leave_all

pub returns-clause-steps : goal.returns-clause-steps
returns-clause-steps c = steps_leave_all

pub returns-clause-calls : goal.returns-clause-calls
returns-clause-calls c = calls_keep_steps
