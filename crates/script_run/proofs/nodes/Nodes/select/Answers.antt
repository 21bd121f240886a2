use Rattle.std.proofs.Common.{refl, ap}
use Rattle.durable_replica.specs.declared.replica.DurableReplica.{DurableReplica}
use Rattle.script_run.proofs.Spoken.{any_err, gave_up_idle, rep_none, rep_one, selected, selected_drew}
use Rattle.script_run.proofs.nodes.Nodes.select.Goals as goal

pub returns-in_err-draw-clause-left : goal.returns-in_err-draw-clause-left
returns-in_err-draw-clause-left g c names t start b before =
    any_err c.from_residual.result _ (gave_up_idle names _ start _ c.args.number b t c.args.report.now (record c.args.report.now { rep_draws = c.take_draw.new.draws }) before refl refl)

pub returns-in_err-draw-clause-grew : goal.returns-in_err-draw-clause-grew
returns-in_err-draw-clause-grew g c = rep_none c.args.report.now c.take_draw.new.draws c.in_err-draw.ensures.err

pub returns-in-Err-clause-left : goal.returns-in-Err-clause-left
returns-in-Err-clause-left g c names t start b before =
    gave_up_idle names _ start _ c.args.number b t c.args.report.now (record c.args.report.now { rep_draws = c.take_draw.new.draws }) before refl refl

pub returns-in-Err-clause-grew : goal.returns-in-Err-clause-grew
returns-in-Err-clause-grew g c = rep_one c.args.report.now c.take_draw.new.draws c.in_ok-draw.draw c.in_ok-draw.ensures.told

pub returns-in_err-shown-in-Ok-clause-left : goal.returns-in_err-shown-in-Ok-clause-left
returns-in_err-shown-in-Ok-clause-left g c names t start b before =
    any_err _ _ (gave_up_idle names _ start _ c.args.number b t c.args.report.now (record c.args.report.now { rep_draws = c.take_draw.new.draws }) before refl refl)

pub returns-in_err-shown-in-Ok-clause-grew : goal.returns-in_err-shown-in-Ok-clause-grew
returns-in_err-shown-in-Ok-clause-grew g c = rep_one c.args.report.now c.take_draw.new.draws c.in_ok-draw.draw c.in_ok-draw.ensures.told

pub returns-in_ok-shown-in-Ok-clause-grew : goal.returns-in_ok-shown-in-Ok-clause-grew
returns-in_ok-shown-in-Ok-clause-grew g c = rep_one c.args.report.now c.take_draw.new.draws c.in_ok-draw.draw c.in_ok-draw.ensures.told

pub returns-in_ok-shown-in-Ok-clause-carried : goal.returns-in_ok-shown-in-Ok-clause-carried
returns-in_ok-shown-in-Ok-clause-carried g c names t start b before =
    selected c.args.self.now _ t start c.args.number c.args.text.now c.in_ok-draw.draw c.args.report.now (record c.args.report.now { rep_draws = c.take_draw.new.draws }) c.in-Ok.answer c.in_ok-shown-in-Ok.field-0
    (ap (λ (r : DurableReplica). record c.args.self.now { replica = r }) c.select.ensures.same) c.in-Ok.ensures.answer c.in_ok-shown-in-Ok.ensures
    (selected_drew c.args.report.now c.args.text.now c.take_draw.new.draws c.in_ok-draw.draw c.in_ok-draw.ensures.told) refl refl names b before
