use Rattle.script_run.specs.Asking.{asked_seen}
use Rattle.script_run.proofs.Logged.{logged_served}
use Rattle.script_run.proofs.logging.log_of_all.Goals as goal

pub returns-clause-logged : goal.returns-clause-logged
returns-clause-logged g c from t opened =
    logged_served c.whole_log_by.result asked_seen c.args.asked.now from t _ _ _ c.answer_all.new.report _ _ c.answer_all.new.nodes c.whole_log_by.ensures.goes (c.in_ok-answer_all.ensures.going from t opened) c.whole_log_by.ensures.log
