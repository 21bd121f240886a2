use Rattle.std.proofs.Common.{refl, ap}
use Rattle.script_run.proofs.Checkpointing.{source_kept, source_left}
use Rattle.script_run.proofs.Spoken.{any_err, source_refuses}
use Rattle.script_run.proofs.nodes.Nodes.checkpoint_source.Goals as goal

pub returns-in-Err-clause-left : goal.returns-in-Err-clause-left
returns-in-Err-clause-left g c names rep start b report before =
    source_left c.runs_last.ensures.source (record { goes_on = c.log_goes_on.ensures; one = c.logs_go_on.ensures.one; stores = c.stores_go_on.ensures }) c.args.self.now _ _ rep start c.args.number report c.checkpoint.ensures.goes c.checkpoint.ensures.runs names b before

pub returns-in-Err-clause-refuses : goal.returns-in-Err-clause-refuses
returns-in-Err-clause-refuses g c rep n = rw c.by_open_source.ensures (source_refuses _ c.in-Err.fault _ rep _ _ n c.in-Err.ensures.cause.disk)

pub returns-in_err-shown-in-Ok-clause-left : goal.returns-in_err-shown-in-Ok-clause-left
returns-in_err-shown-in-Ok-clause-left g c names rep start b report before =
    any_err _ _ (source_left c.runs_last.ensures.source (record { goes_on = c.log_goes_on.ensures; one = c.logs_go_on.ensures.one; stores = c.stores_go_on.ensures }) c.args.self.now _ _ rep start c.args.number report c.checkpoint.ensures.goes c.checkpoint.ensures.runs names b before)

pub returns-in_ok-shown-in-Ok-clause-carried : goal.returns-in_ok-shown-in-Ok-clause-carried
returns-in_ok-shown-in-Ok-clause-carried g c names rep start b report before =
    source_kept c.runs_last.ensures.source (record { goes_on = c.log_goes_on.ensures; one = c.logs_go_on.ensures.one; stores = c.stores_go_on.ensures }) c.args.self.now _ _ rep start c.args.number report c.checkpoint.ensures.goes c.checkpoint.ensures.runs names b before
    _ _ c.in_ok-shown-in-Ok.field-0 refl (ap (λ x. x.identity) c.checkpoint.ensures.node) c.in-Ok.ensures.generation c.in-Ok.ensures.stands c.ok-answer.ensures c.in_ok-shown-in-Ok.ensures
