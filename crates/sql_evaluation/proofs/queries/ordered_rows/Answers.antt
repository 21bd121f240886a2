use Rattle.exec_state.specs.Stage.{scene_of}
use Rattle.sql_evaluation.proofs.Scanning.{no_order_given}
use Rattle.sql_evaluation.proofs.queries.ordered_rows.Goals as goal

pub returns-then-is_empty-clause-gives : goal.returns-then-is_empty-clause-gives
returns-then-is_empty-clause-gives g c =
    no_order_given c.args.around.now c.args.views.now c.args.definition.now c.args.order.now c.is_empty.result c.args.rows (scene_of c.args.stage.now) c.is_empty.ensures c.if-is_empty.true
