use Rattle.std.proofs.Common.{rules, ◌≡◌, Ok, subst}
use Rattle.val_types.specs.declared.definitions.TableDef.{TableDef}
use Rattle.sql_tree.specs.View.{view_orders}
use Rattle.key_order.specs.Given.{OrderedByKey}
use Rattle.exec_state.specs.Stage.{scene_of}
use Rattle.sql_evaluation.proofs.Saving.{placed}
use Rattle.sql_evaluation.proofs.shortcuts.placed_rows.Goals as goal

pub returns-in-Ok-clause-gives : goal.returns-in-Ok-clause-gives
returns-in-Ok-clause-gives g c =
    let same : c.get.result.now ≡ c.args.definition.now = search rules in
    let by = subst (λ (d : TableDef). OrderedByKey c.outside_of-outside.result d (view_orders c.args.order.now) c.args.rows (Ok c.in-Ok.placed)) same c.in-Ok.ensures in
    λ tabled. placed c.args.around.now c.args.views.now c.outside_of-outside.result c.args.definition.now (view_orders c.args.order.now) c.args.rows c.in-Ok.placed (scene_of c.args.stage.now) c.outside_of-outside.ensures by tabled
