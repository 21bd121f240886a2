use Rattle.std.proofs.Common.{◌≡◌, List, sym, ap, subst, ◌∙◌}
use Rattle.std.specs.Prelude.{OnErr}
use Rattle.sql_tree.specs.StatementView.{view}
use Rattle.exec_state.specs.declared.stage.Stage.{Stage}
use Rattle.prog_work.specs.catalog_objects.declared.object.Object.{Object}
use Rattle.prog_work.specs.catalog_objects.Keys.{objects_of}
use Rattle.prog_work.specs.declared.meter.Meter.{Meter}
use Rattle.prog_work.specs.Contents.{committed_tables, Contents, contents_of}
use Rattle.prog_work.specs.Together.{AreTogether}
use Rattle.prog_run.specs.Runs.{moment, LeavesAll, Runs, Comes}
use Rattle.prog_run.proofs.Moments.{committed_on, together_on, left_by_error, runs_from}
use Rattle.prog_run.proofs.running.run_plain.Goals as goal

pub put_together-requires : goal.put_together-requires
put_together-requires c =
    let objects = c.take_apart-apart.result.catalog in
    together_on objects c.begin.new.stage c.run_on-result.new.stage
    (subst (λ (s : Stage). AreTogether objects s.tables s.undo s.counters) (sym c.begin.ensures) c.take_apart-apart.ensures.together) c.run_on-result.ensures.leads

pub returns-clause-runs : goal.returns-clause-runs
returns-clause-runs c =
    let objects = c.take_apart-apart.result.catalog in
    let same : contents_of objects c.begin.new.stage ≡ c.args.work.now = ap (contents_of objects) c.begin.ensures ∙ c.take_apart-apart.ensures.is in
    let put : contents_of objects c.run_on-result.new.stage ≡ c.put_together.new.self = sym c.put_together.ensures in
    subst (λ (w : Contents). Runs c.args.draw.now (view c.args.statement.now) c.run_on-result.result (moment c.args.work.now c.args.context.now c.args.meter.now) (moment w c.run_on-result.new.context c.end.new.meter)) put
    (subst (λ (w : Contents). Runs c.args.draw.now (view c.args.statement.now) c.run_on-result.result (moment w c.args.context.now c.args.meter.now) (moment (contents_of objects c.run_on-result.new.stage) c.run_on-result.new.context c.end.new.meter)) same
    (runs_from c.args.draw.now objects c.begin.new.stage c.run_on-result.new.stage c.args.context.now c.run_on-result.new.context c.args.meter.now c.end.new.meter c.number_of_bytes-uuid.result
    (view c.args.statement.now) c.run_on-result.result c.number_of_bytes-uuid.ensures
    (ap (λ (s : Stage). s.seeds) c.begin.ensures) (ap (λ (s : Stage). s.turns) c.begin.ensures) (ap (λ (s : Stage). s.uuids) c.begin.ensures)
    (sym (ap (λ (m : Meter). m.turns) c.end.ensures)) (sym (ap (λ (m : Meter). m.uuids) c.end.ensures))
    (subst (λ (os : List Object). Comes (record { catalog = objects_of os; context = c.args.context.now; uuid = c.number_of_bytes-uuid.result }) c.args.meter.now.depth (view c.args.statement.now) c.run_on-result.result c.begin.new.stage c.run_on-result.new.stage c.run_on-result.new.context) c.objects.ensures c.run_on-result.ensures.comes)))

pub returns-clause-committed : goal.returns-clause-committed
returns-clause-committed c =
    let objects = c.take_apart-apart.result.catalog in
    let same : contents_of objects c.begin.new.stage ≡ c.args.work.now = ap (contents_of objects) c.begin.ensures ∙ c.take_apart-apart.ensures.is in
    ap committed_tables c.put_together.ensures
    ∙ committed_on objects c.begin.new.stage c.run_on-result.new.stage
    (subst (λ (s : Stage). AreTogether objects s.tables s.undo s.counters) (sym c.begin.ensures) c.take_apart-apart.ensures.together) c.run_on-result.ensures.leads
    ∙ ap committed_tables same

pub returns-clause-err : goal.returns-clause-err
returns-clause-err c =
    let objects = c.take_apart-apart.result.catalog in
    let same : contents_of objects c.begin.new.stage ≡ c.args.work.now = ap (contents_of objects) c.begin.ensures ∙ c.take_apart-apart.ensures.is in
    let put : contents_of objects c.run_on-result.new.stage ≡ c.put_together.new.self = sym c.put_together.ensures in
    subst (λ (w : Contents). OnErr c.run_on-result.result (LeavesAll c.args.work.now w)) put
    (subst (λ (w : Contents). OnErr c.run_on-result.result (LeavesAll w (contents_of objects c.run_on-result.new.stage))) same
    (left_by_error objects c.begin.new.stage c.run_on-result.new.stage c.run_on-result.result c.run_on-result.ensures.leads c.run_on-result.ensures.back))
