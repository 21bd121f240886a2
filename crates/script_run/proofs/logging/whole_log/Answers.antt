use Rattle.script_run.proofs.Logged.{whole_given}
use Rattle.script_run.proofs.logging.whole_log.Goals as goal

pub returns-clause-log : goal.returns-clause-log
returns-clause-log g c =
    whole_given c.log_bytes.result (record { goes_on = c.log_goes_on.ensures; one = c.logs_go_on.ensures.one; stores = c.stores_go_on.ensures }) _ c.args.nodes.now c.log_bytes.ensures.bytes c.log_bytes.ensures.end

pub returns-clause-goes : goal.returns-clause-goes
returns-clause-goes g c = c.log_bytes.ensures.quiet.on
