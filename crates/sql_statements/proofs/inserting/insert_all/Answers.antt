use Rattle.std.proofs.Common.{◌≡◌, ap}
use Rattle.std.proofs.lemmas.Result.{err_from_is_err_and}
use Rattle.sql_tree.specs.Statement.{rows_of}
use Rattle.sql_tree.specs.StatementView.{view_supply}
use Rattle.sql_tree.specs.View.{view_query}
use Rattle.exec_state.specs.Stage.{scene_of}
use Rattle.changed_rows.specs.Changed.{manner_of}
use Rattle.sql_statements.proofs.Inserts.{supply_not_read, supply_rows}
use Rattle.sql_statements.proofs.inserting.insert_all.Goals as goal

pub returns-in_err-rows-in-Select-clause-gives : goal.returns-in_err-rows-in-Select-clause-gives
returns-in_err-rows-in-Select-clause-gives g c =
    let source : view_supply c.args.source.now ≡ rows_of (view_query c.in-Select.select) = ap view_supply c.in-Select.is in
    let p = err_from_is_err_and c.from_residual.result c.from_residual.ensures.1 in
    rw (p.1, p.2, source) (supply_not_read c.args.table.now.around.now c.new-views-in-Select.result c.args.insertion.now.forced c.args.table.now.definition.now c.args.insertion.now.places.now (manner_of c.args.insertion.now.manner) (view_query c.in-Select.select) _
    (scene_of c.args.stage.now) (scene_of c.rows_of_query.new.stage) c.new-views-in-Select.ensures c.in_err-rows-in-Select.ensures.gives)

pub returns-in_ok-rows-in-Select-clause-gives : goal.returns-in_ok-rows-in-Select-clause-gives
returns-in_ok-rows-in-Select-clause-gives g c =
    let source : view_supply c.args.source.now ≡ rows_of (view_query c.in-Select.select) = ap view_supply c.in-Select.is in
    rw source (supply_rows c.args.table.now.around.now c.new-views-in-Select.result c.args.insertion.now.forced c.args.table.now.definition.now c.args.insertion.now.places.now (manner_of c.args.insertion.now.manner) (view_query c.in-Select.select) c.in_ok-rows-in-Select.rows c.as_slice-in-Select.result.now
    c.insert_rows.result (scene_of c.args.stage.now) (scene_of c.rows_of_query.new.stage) (scene_of c.insert_rows.new.stage) c.new-views-in-Select.ensures c.in_ok-rows-in-Select.ensures.gives c.as_slice-in-Select.ensures c.insert_rows.ensures.gives)
