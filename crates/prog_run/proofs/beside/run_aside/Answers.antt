use Rattle.std.proofs.Common.{List, sym, ap, subst}
use Rattle.std.proofs.lemmas.Result.{err_from_is_err_and}
use Rattle.sql_tree.specs.StatementView.{view}
use Rattle.exec_state.specs.declared.stage.Stage.{Stage}
use Rattle.prog_work.specs.catalog_objects.declared.object.Object.{Object}
use Rattle.prog_work.specs.catalog_objects.Keys.{objects_of}
use Rattle.prog_work.specs.declared.meter.Meter.{Meter}
use Rattle.prog_work.specs.Contents.{contents_of}
use Rattle.prog_run.specs.Runs.{Comes, LeavesAll, Runs}
use Rattle.prog_run.proofs.Aside.{at_error, beside_from, fit, leaves_beside, runs_not, together_beside}
use Rattle.prog_run.proofs.Moments.{runs_from}
use Rattle.prog_run.proofs.beside.run_aside.Goals as goal

pub put_back-requires : goal.put_back-requires
put_back-requires c =
    fit c.args.catalog.now c.in_ok-aside.aside c.args.stage.now c.set_aside.new.stage c.begin.new.stage c.run_on-result.new.stage
    c.args.context.now.seeds c.args.meter.now.turns c.args.meter.now.uuids c.requires c.in_ok-aside.ensures.aside c.in_ok-aside.ensures.ok c.begin.ensures c.run_on-result.ensures.leads

pub returns-clause-together : goal.returns-clause-together
returns-clause-together c =
    together_beside c.args.catalog.now c.in_ok-aside.aside c.args.stage.now c.set_aside.new.stage c.begin.new.stage c.run_on-result.new.stage
    c.args.context.now.seeds c.args.meter.now.turns c.args.meter.now.uuids c.requires c.in_ok-aside.ensures.aside c.in_ok-aside.ensures.ok c.begin.ensures c.run_on-result.ensures.leads
    c.put_back.new.stage c.put_back.ensures

pub returns-clause-runs : goal.returns-clause-runs
returns-clause-runs c =
    let objects = c.args.catalog.now in
    beside_from objects c.in_ok-aside.aside c.args.stage.now c.set_aside.new.stage c.begin.new.stage c.run_on-result.new.stage
    c.args.context.now.seeds c.args.meter.now.turns c.args.meter.now.uuids c.requires c.in_ok-aside.ensures.aside c.in_ok-aside.ensures.ok c.begin.ensures c.run_on-result.ensures.leads
    c.put_back.new.stage c.put_back.ensures (Runs c.args.draw.now (view c.args.statement.now) c.run_on-result.result) c.args.context.now c.run_on-result.new.context c.args.meter.now c.end.new.meter
    (runs_from c.args.draw.now objects c.begin.new.stage c.run_on-result.new.stage c.args.context.now c.run_on-result.new.context c.args.meter.now c.end.new.meter c.number_of_bytes-uuid.result
    (view c.args.statement.now) c.run_on-result.result c.number_of_bytes-uuid.ensures
    (ap (λ (s : Stage). s.seeds) c.begin.ensures) (ap (λ (s : Stage). s.turns) c.begin.ensures) (ap (λ (s : Stage). s.uuids) c.begin.ensures)
    (sym (ap (λ (m : Meter). m.turns) c.end.ensures)) (sym (ap (λ (m : Meter). m.uuids) c.end.ensures))
    (subst (λ (os : List Object). Comes (record { catalog = objects_of os; context = c.args.context.now; uuid = c.number_of_bytes-uuid.result }) c.args.meter.now.depth (view c.args.statement.now) c.run_on-result.result c.begin.new.stage c.run_on-result.new.stage c.run_on-result.new.context) c.objects.ensures c.run_on-result.ensures.comes))

pub returns-clause-err : goal.returns-clause-err
returns-clause-err c =
    at_error c.run_on-result.result (LeavesAll (contents_of c.args.catalog.now c.args.stage.now) (contents_of c.args.catalog.now c.put_back.new.stage))
    (leaves_beside c.args.catalog.now c.in_ok-aside.aside c.args.stage.now c.set_aside.new.stage c.begin.new.stage c.run_on-result.new.stage
    c.args.context.now.seeds c.args.meter.now.turns c.args.meter.now.uuids c.requires c.in_ok-aside.ensures.aside c.in_ok-aside.ensures.ok c.begin.ensures c.run_on-result.ensures.leads
    c.put_back.new.stage c.put_back.ensures)

pub returns-in_err-aside-clause-runs : goal.returns-in_err-aside-clause-runs
returns-in_err-aside-clause-runs c =
    let p = err_from_is_err_and c.from_residual.result c.from_residual.ensures.1 in
    runs_not c.args.catalog.now c.args.stage.now c.set_aside.new.stage c.in_err-aside.ensures.err c.requires c.args.draw.now c.args.context.now c.args.meter.now p.0 p.2
    (view c.args.statement.now) c.from_residual.result p.1
