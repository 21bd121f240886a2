use Rattle.sql_tree.specs.View.{view_query}
use Rattle.exec_state.specs.Stage.{scene_of}
use Rattle.sql_statements.proofs.Shown.{select_done}
use Rattle.sql_statements.proofs.performing.select.Goals as goal

pub returns-clause-gives : goal.returns-clause-gives
returns-clause-gives g c =
    select_done c.args.around.now c.args.views.now (view_query c.args.query.now) c.in_ok-rows.rows _ (scene_of c.args.stage.now) (scene_of c.rows_of_query.new.stage) c.in_ok-rows.ensures.gives c.showing.ensures
