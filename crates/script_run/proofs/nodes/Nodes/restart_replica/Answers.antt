use Rattle.std.proofs.Common.{refl}
use Rattle.disk_model.proofs.Moments.{on_refl}
use Rattle.script_run.proofs.Spoken.{any_err, gave_up_idle, rep_none, rep_one, replica_drew, replica_not_reopened, replica_reopened, replica_restart_refuses}
use Rattle.script_run.proofs.nodes.Nodes.restart_replica.Goals as goal

pub returns-in_err-draw-clause-left : goal.returns-in_err-draw-clause-left
returns-in_err-draw-clause-left g c names src start b before =
    any_err c.from_residual.result _ (gave_up_idle names _ start _ c.args.number b _ c.args.report.now (record c.args.report.now { rep_draws = c.take_draw.new.draws }) before refl refl)

pub returns-in_err-draw-clause-goes : goal.returns-in_err-draw-clause-goes
returns-in_err-draw-clause-goes g c = on_refl _

pub returns-in_err-draw-clause-grew : goal.returns-in_err-draw-clause-grew
returns-in_err-draw-clause-grew g c = rep_none c.args.report.now c.take_draw.new.draws c.in_err-draw.ensures.err

pub returns-in-Err-clause-left : goal.returns-in-Err-clause-left
returns-in-Err-clause-left g c names src start b before =
    replica_not_reopened c.args.self.now src _ _ start c.args.number c.in_ok-draw.draw c.args.report.now (record c.args.report.now { rep_draws = c.take_draw.new.draws }) c.restart.ensures.goes c.restart.ensures.runs refl refl names b before

pub returns-in-Err-clause-refuses : goal.returns-in-Err-clause-refuses
returns-in-Err-clause-refuses g c src n =
    rw c.by_replica.ensures (replica_restart_refuses c.in-Err.refusal src _ _ _ n c.in-Err.ensures.whole c.in-Err.ensures.cause.disk)

pub returns-in-Err-clause-grew : goal.returns-in-Err-clause-grew
returns-in-Err-clause-grew g c = rep_one c.args.report.now c.take_draw.new.draws c.in_ok-draw.draw c.in_ok-draw.ensures.told

pub returns-in_err-shown-in-Ok-clause-left : goal.returns-in_err-shown-in-Ok-clause-left
returns-in_err-shown-in-Ok-clause-left g c names src start b before =
    any_err _ _ (replica_not_reopened c.args.self.now src _ _ start c.args.number c.in_ok-draw.draw c.args.report.now (record c.args.report.now { rep_draws = c.take_draw.new.draws }) c.restart.ensures.goes c.restart.ensures.runs refl refl names b before)

pub returns-in_err-shown-in-Ok-clause-grew : goal.returns-in_err-shown-in-Ok-clause-grew
returns-in_err-shown-in-Ok-clause-grew g c = rep_one c.args.report.now c.take_draw.new.draws c.in_ok-draw.draw c.in_ok-draw.ensures.told

pub returns-in_ok-shown-in-Ok-clause-grew : goal.returns-in_ok-shown-in-Ok-clause-grew
returns-in_ok-shown-in-Ok-clause-grew g c = rep_one c.args.report.now c.take_draw.new.draws c.in_ok-draw.draw c.in_ok-draw.ensures.told

pub returns-in_ok-shown-in-Ok-clause-carried : goal.returns-in_ok-shown-in-Ok-clause-carried
returns-in_ok-shown-in-Ok-clause-carried g c names src start b before =
    replica_reopened c.args.self.now _ src _ _ start c.args.number c.in_ok-draw.draw c.args.report.now (record c.args.report.now { rep_draws = c.take_draw.new.draws }) _ c.in_ok-shown-in-Ok.field-0
    c.replica_follows.ensures.goes_on c.restarts_keep.ensures.marks refl c.restart.ensures.identity c.in-Ok.ensures.generation c.in-Ok.ensures.replica c.in-Ok.ensures.on c.restart.ensures.goes c.restart.ensures.runs c.ok-answer.ensures c.in_ok-shown-in-Ok.ensures
    (replica_drew c.args.report.now c.take_draw.new.draws c.in_ok-draw.draw c.in_ok-draw.ensures.told) refl refl names b before
