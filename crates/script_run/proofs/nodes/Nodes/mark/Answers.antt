use Rattle.script_run.proofs.Spoken.{marked_at}
use Rattle.script_run.proofs.nodes.Nodes.mark.Goals as goal

pub returns-clause-numbers : goal.returns-clause-numbers
returns-clause-numbers g c names start b together =
    marked_at (record { goes_on = c.log_goes_on.ensures; one = c.logs_go_on.ensures.one; stores = c.stores_go_on.ensures }) names _ start c.args.self.now b together c.args.number _ c.calls.result _ c.calls-2.result
    c.number.ensures.store c.number-2.ensures
