use Rattle.std.proofs.Common.{◌≡◌, ap, ◌∙◌}
use Rattle.sql_tree.specs.Statement.{evaluate, select}
use Rattle.sql_tree.specs.StatementView.{view, view_delete, view_insert, view_replace, view_update}
use Rattle.sql_tree.specs.View.{view_query, view_trees}
use Rattle.exec_state.specs.Stage.{scene_of}
use Rattle.changed_rows.specs.Changed.{manner_of}
use Rattle.sql_statements.proofs.Viewed.{delete_seen, do_seen, insert_seen, replace_seen, select_seen, update_seen}
use Rattle.sql_statements.proofs.Shown.{deletes, does, inserts, replaces, selects, updates}
use Rattle.sql_statements.proofs.performing.perform.Goals as goal

pub returns-in-Insert-clause-gives : goal.returns-in-Insert-clause-gives
returns-in-Insert-clause-gives g c =
    let same : view c.args.statement.now ≡ view_insert c.in-Insert.s = ap view c.in-Insert.is ∙ insert_seen c.in-Insert.s in
    rw same (inserts c.args.around.now c.args.forced c.in-Insert.s (manner_of c.manner.result) c.insert.result (scene_of c.args.stage.now) (scene_of c.insert.new.stage) c.manner.ensures c.insert.ensures.gives)

pub returns-in-Replace-clause-gives : goal.returns-in-Replace-clause-gives
returns-in-Replace-clause-gives g c =
    let same : view c.args.statement.now ≡ view_replace c.in-Replace.s = ap view c.in-Replace.is ∙ replace_seen c.in-Replace.s in
    rw same (replaces c.args.around.now c.args.forced c.in-Replace.s c.insert-in-Replace.result (scene_of c.args.stage.now) (scene_of c.insert-in-Replace.new.stage) c.insert-in-Replace.ensures.gives)

pub returns-in-Update-clause-gives : goal.returns-in-Update-clause-gives
returns-in-Update-clause-gives g c =
    let same : view c.args.statement.now ≡ view_update c.in-Update.s = ap view c.in-Update.is ∙ update_seen c.in-Update.s in
    rw same (updates c.args.around.now c.args.forced c.in-Update.s c.update.result (scene_of c.args.stage.now) (scene_of c.update.new.stage) c.update.ensures.gives)

pub returns-in-Delete-clause-gives : goal.returns-in-Delete-clause-gives
returns-in-Delete-clause-gives g c =
    let same : view c.args.statement.now ≡ view_delete c.in-Delete.s = ap view c.in-Delete.is ∙ delete_seen c.in-Delete.s in
    rw same (deletes c.args.around.now c.args.forced c.in-Delete.s c.delete.result (scene_of c.args.stage.now) (scene_of c.delete.new.stage) c.delete.ensures.gives)

pub returns-in-Select-clause-gives : goal.returns-in-Select-clause-gives
returns-in-Select-clause-gives g c =
    let same : view c.args.statement.now ≡ select (view_query c.in-Select.query) = ap view c.in-Select.is ∙ select_seen c.in-Select.query in
    rw same (selects c.args.around.now c.new-views.result c.args.forced (view_query c.in-Select.query) c.select.result (scene_of c.args.stage.now) (scene_of c.select.new.stage) c.new-views.ensures c.select.ensures.gives)

pub returns-in-Do-clause-gives : goal.returns-in-Do-clause-gives
returns-in-Do-clause-gives g c =
    let same : view c.args.statement.now ≡ evaluate (view_trees c.in-Do.exprs) = ap view c.in-Do.is ∙ do_seen c.in-Do.exprs in
    rw same (does c.args.around.now c.new-views-in-Do.result c.args.forced (view_trees c.in-Do.exprs) c.evaluate_all.result (scene_of c.args.stage.now) (scene_of c.evaluate_all.new.stage) c.new-views-in-Do.ensures c.evaluate_all.ensures.gives)
