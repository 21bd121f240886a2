use Rattle.std.proofs.Common.{◌∙◌}
use Rattle.std.proofs.lemmas.Result.{err_from_is_err_and}
use Rattle.table_rules.specs.Tables.{Table}
use Rattle.sql_tree.specs.View.{view_orders, view_part}
use Rattle.exec_state.specs.Stage.{scene_of}
use Rattle.sql_statements.proofs.Picked.{chosen_same}
use Rattle.sql_statements.proofs.Changes.{update_done, update_not_all, update_not_chosen_of}
use Rattle.sql_statements.proofs.updating.update.Goals as goal

pub returns-in_err-chosen-clause-gives : goal.returns-in_err-chosen-clause-gives
returns-in_err-chosen-clause-gives g c =
    let t : Table = record { definition = c.in_ok-target.target.definition; rows = c.in_ok-rows.ensures.all } in
    let same = chosen_same c.args.around.now c.new-views.result c.args.statement.now.table c.in_ok-target.target.definition (view_part c.args.statement.now.filter) (view_orders c.args.statement.now.order) c.args.statement.now.limit c.args.stage.now c.in_ok-rows.rows (scene_of c.args.stage.now) c.in_ok-rows.ensures in
    let p = err_from_is_err_and c.from_residual-in_err-chosen.result c.from_residual-in_err-chosen.ensures.1 in
    rw (p.1, p.2) (update_not_chosen_of c.args.around.now c.new-views.result c.args.statement.now t c.in_ok-rows.rows _ (scene_of c.args.stage.now) (scene_of c.args.stage.now) (scene_of c.chosen_rows.new.stage)
    c.in_ok-rows.ensures.there c.new-views.ensures same c.in_err-chosen.ensures.gives)

pub returns-in_err-count-clause-gives : goal.returns-in_err-count-clause-gives
returns-in_err-count-clause-gives g c =
    let t : Table = record { definition = c.in_ok-target.target.definition; rows = c.in_ok-rows.ensures.all } in
    let same = chosen_same c.args.around.now c.new-views.result c.args.statement.now.table c.in_ok-target.target.definition (view_part c.args.statement.now.filter) (view_orders c.args.statement.now.order) c.args.statement.now.limit c.args.stage.now c.in_ok-rows.rows (scene_of c.args.stage.now) c.in_ok-rows.ensures in
    let p = err_from_is_err_and c.from_residual-in_err-count.result c.from_residual-in_err-count.ensures.1 in
    rw (p.1, p.2) (update_not_all c.args.around.now c.new-views.result c.args.statement.now t c.in_ok-chosen.chosen c.as_slice.result.now _ (scene_of c.args.stage.now) (scene_of c.args.stage.now) (scene_of c.chosen_rows.new.stage) (scene_of c.update_each.new.stage)
    c.in_ok-rows.ensures.there c.new-views.ensures (same ∙ c.in_ok-chosen.ensures.gives) c.as_slice.ensures c.in_err-count.ensures.gives)

pub returns-clause-gives : goal.returns-clause-gives
returns-clause-gives g c =
    let t : Table = record { definition = c.in_ok-target.target.definition; rows = c.in_ok-rows.ensures.all } in
    let same = chosen_same c.args.around.now c.new-views.result c.args.statement.now.table c.in_ok-target.target.definition (view_part c.args.statement.now.filter) (view_orders c.args.statement.now.order) c.args.statement.now.limit c.args.stage.now c.in_ok-rows.rows (scene_of c.args.stage.now) c.in_ok-rows.ensures in
    update_done c.args.around.now c.new-views.result c.args.statement.now t c.in_ok-chosen.chosen c.as_slice.result.now c.in_ok-count.count _ (scene_of c.args.stage.now) (scene_of c.args.stage.now) (scene_of c.chosen_rows.new.stage) (scene_of c.update_each.new.stage)
    c.in_ok-rows.ensures.there c.new-views.ensures (same ∙ c.in_ok-chosen.ensures.gives) c.as_slice.ensures c.in_ok-count.ensures.gives c.affecting.ensures
