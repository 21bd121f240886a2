use Rattle.std.proofs.Common.{refl}
use Rattle.script_run.proofs.Checkpointing.{replica_kept, replica_left}
use Rattle.script_run.proofs.Spoken.{any_err, replica_refuses}
use Rattle.script_run.proofs.nodes.Nodes.checkpoint_replica.Goals as goal

pub returns-in-Err-clause-left : goal.returns-in-Err-clause-left
returns-in-Err-clause-left g c names src start b report before =
    replica_left c.args.self.now src _ _ start c.args.number report c.checkpoint.ensures.goes c.checkpoint.ensures.runs names b before

pub returns-in-Err-clause-refuses : goal.returns-in-Err-clause-refuses
returns-in-Err-clause-refuses g c src n = rw c.by_open_replica.ensures (replica_refuses _ c.in-Err.fault src _ _ _ n c.in-Err.ensures.cause.disk)

pub returns-in_err-shown-in-Ok-clause-left : goal.returns-in_err-shown-in-Ok-clause-left
returns-in_err-shown-in-Ok-clause-left g c names src start b report before =
    any_err _ _ (replica_left c.args.self.now src _ _ start c.args.number report c.checkpoint.ensures.goes c.checkpoint.ensures.runs names b before)

pub returns-in_ok-shown-in-Ok-clause-carried : goal.returns-in_ok-shown-in-Ok-clause-carried
returns-in_ok-shown-in-Ok-clause-carried g c names src start b report before =
    replica_kept c.args.self.now src _ _ start c.args.number report c.checkpoint.ensures.goes c.checkpoint.ensures.runs names b before
    _ _ c.in_ok-shown-in-Ok.field-0 refl c.checkpoint.ensures.node c.in-Ok.ensures.generation c.in-Ok.ensures.on c.ok-answer.ensures c.in_ok-shown-in-Ok.ensures
