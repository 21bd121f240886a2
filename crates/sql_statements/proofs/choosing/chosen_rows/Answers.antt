use Rattle.sql_tree.specs.View.{view_orders, view_part}
use Rattle.exec_state.specs.Stage.{scene_of}
use Rattle.sql_statements.proofs.Picked.{chosen_done}
use Rattle.sql_statements.proofs.choosing.chosen_rows.Goals as goal

pub returns-clause-gives : goal.returns-clause-gives
returns-clause-gives g c =
    chosen_done c.args.around.now c.args.views.now c.args.definition.now (view_part c.args.filter.now) (view_orders c.args.order.now) c.args.limit.now c.args.rows c.in_ok-kept.kept c.in_ok-ordered.ordered c.limited_to.result
    (scene_of c.args.stage.now) (scene_of c.where_rows.new.stage) (scene_of c.ordered_rows.new.stage) c.in_ok-kept.ensures.gives c.in_ok-ordered.ensures.gives c.limited_to.ensures
