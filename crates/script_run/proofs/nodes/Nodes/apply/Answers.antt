use Rattle.std.proofs.Common.{refl, ap}
use Rattle.answer_text.specs.declared.report.Report.{Report}
use Rattle.disk_model.proofs.Moments.{on_refl}
use Rattle.script_run.proofs.Drawing.{drew_on}
use Rattle.script_run.proofs.Spoken.{any_err, applied, applied_drew, gave_up_idle, rep_marked, rep_none, replica_refuses, unapplied}
use Rattle.script_run.proofs.nodes.Nodes.apply.Goals as goal

pub returns-in_err-draw-clause-left : goal.returns-in_err-draw-clause-left
returns-in_err-draw-clause-left g c names src start b before =
    any_err c.from_residual.result _ (gave_up_idle names _ start _ c.args.number b _ c.args.report.now (record c.args.report.now { rep_draws = c.take_draw.new.draws }) before refl refl)

pub returns-in_err-draw-clause-goes : goal.returns-in_err-draw-clause-goes
returns-in_err-draw-clause-goes g c = on_refl _

pub returns-in_err-draw-clause-grew : goal.returns-in_err-draw-clause-grew
returns-in_err-draw-clause-grew g c = rep_none c.args.report.now c.take_draw.new.draws c.in_err-draw.ensures.err

pub returns-in-Err-clause-left : goal.returns-in-Err-clause-left
returns-in-Err-clause-left g c names src start b before =
    unapplied c.runs_last.ensures.source (record { goes_on = c.log_goes_on.ensures; one = c.logs_go_on.ensures.one; stores = c.stores_go_on.ensures }) c.args.self.now src _ _ start c.args.number c.args.count c.in_ok-draw.draw c.apply.new.self.store.number c.args.report.now c.apply.new.report c.apply.ensures.goes
    c.apply.ensures.carries c.apply.ensures.pushed (ap (λ (r : Report). r.now) c.apply.ensures.rest) names b before

pub returns-in-Err-clause-refuses : goal.returns-in-Err-clause-refuses
returns-in-Err-clause-refuses g c src n = rw c.by_open_replica.ensures (replica_refuses _ c.in-Err.fault src _ _ _ n c.in-Err.ensures.cause.disk)

pub returns-in-Err-clause-grew : goal.returns-in-Err-clause-grew
returns-in-Err-clause-grew g c = rep_marked c.args.report.now c.apply.new.report c.take_draw.new.draws c.apply.new.report.marks c.in_ok-draw.draw c.apply.ensures.rest c.in_ok-draw.ensures.told

pub returns-in-Err-clause-drawn : goal.returns-in-Err-clause-drawn
returns-in-Err-clause-drawn g c = drew_on _ _ _ _ _ _ (ap (λ (r : Report). r.rep_draws) c.apply.ensures.rest) c.in_ok-draw.ensures.drawn

pub returns-in_err-applied_line-in-Ok-clause-left : goal.returns-in_err-applied_line-in-Ok-clause-left
returns-in_err-applied_line-in-Ok-clause-left g c names src start b before =
    any_err _ _ (unapplied c.runs_last.ensures.source (record { goes_on = c.log_goes_on.ensures; one = c.logs_go_on.ensures.one; stores = c.stores_go_on.ensures }) c.args.self.now src _ _ start c.args.number c.args.count c.in_ok-draw.draw c.apply.new.self.store.number c.args.report.now c.apply.new.report c.apply.ensures.goes
    c.apply.ensures.carries c.apply.ensures.pushed (ap (λ (r : Report). r.now) c.apply.ensures.rest) names b before)

pub returns-in_err-applied_line-in-Ok-clause-grew : goal.returns-in_err-applied_line-in-Ok-clause-grew
returns-in_err-applied_line-in-Ok-clause-grew g c = rep_marked c.args.report.now c.apply.new.report c.take_draw.new.draws c.apply.new.report.marks c.in_ok-draw.draw c.apply.ensures.rest c.in_ok-draw.ensures.told

pub returns-in_ok-applied_line-in-Ok-clause-grew : goal.returns-in_ok-applied_line-in-Ok-clause-grew
returns-in_ok-applied_line-in-Ok-clause-grew g c = rep_marked c.args.report.now c.apply.new.report c.take_draw.new.draws c.apply.new.report.marks c.in_ok-draw.draw c.apply.ensures.rest c.in_ok-draw.ensures.told

pub returns-in_ok-applied_line-in-Ok-clause-carried : goal.returns-in_ok-applied_line-in-Ok-clause-carried
returns-in_ok-applied_line-in-Ok-clause-carried g c names src start b before =
    applied c.runs_last.ensures.source (record { goes_on = c.log_goes_on.ensures; one = c.logs_go_on.ensures.one; stores = c.stores_go_on.ensures }) c.args.self.now _ src _ _ start c.args.number c.args.count c.in_ok-draw.draw c.args.report.now c.apply.new.report c.in-Ok.applied c.in_ok-applied_line-in-Ok.field-0
    c.replica_follows.ensures.goes_on c.replica_follows.ensures.stops c.replica_follows.ensures.damaged refl c.apply.ensures.identity c.in-Ok.ensures.generation c.in-Ok.ensures.replica c.in-Ok.ensures.told c.in-Ok.ensures.on c.apply.ensures.goes
    c.in-Ok.ensures.reaches c.apply.ensures.pushed c.in-Ok.ensures.number c.in-Ok.ensures.marks c.in_ok-applied_line-in-Ok.ensures
    (applied_drew c.args.report.now c.apply.new.report c.args.count c.take_draw.new.draws c.apply.new.report.marks c.in_ok-draw.draw c.apply.ensures.rest c.in_ok-draw.ensures.told)
    (ap (λ (r : Report). r.now) c.apply.ensures.rest) names b before
