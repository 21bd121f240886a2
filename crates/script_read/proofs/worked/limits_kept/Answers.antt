use Rattle.script_read.proofs.Limits.{long_script, long_command}
use Rattle.script_read.proofs.worked.limits_kept.Goals as goal

pub returns-clause-script : goal.returns-clause-script
returns-clause-script c = long_script

pub returns-clause-command : goal.returns-clause-command
returns-clause-command c = long_command
