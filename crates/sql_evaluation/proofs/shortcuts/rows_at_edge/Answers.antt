use Rattle.std.proofs.Common.{Option, Ok, subst}
use Rattle.val_types.specs.declared.refusal.SqlRefusal.{SqlRefusal}
use Rattle.sql_tree.specs.View.{view_from, view_selected}
use Rattle.key_order.specs.where_candidates.declared.seeing.SeenTable.{SeenTable}
use Rattle.key_order.specs.Given.{IsEdge}
use Rattle.exec_state.specs.Stage.{scene_of}
use Rattle.sql_evaluation.proofs.Saving.{edge_shows}
use Rattle.sql_evaluation.proofs.shortcuts.rows_at_edge.Goals as goal

pub returns-in-Some-clause-gives : goal.returns-in-Some-clause-gives
returns-in-Some-clause-gives g c =
    let edge = subst (λ (s : Option SeenTable). IsEdge {E = SqlRefusal} c.outside_of-outside.result (view_from c.args.from.now) c.args.stage.now.tables.tables (Ok s)) c.in-Some.is c.in_ok-definition.ensures in
    edge_shows SqlRefusal c.args.around.now c.args.views.now c.outside_of-outside.result (view_selected c.args.what.now) (view_from c.args.from.now) c.args.stage.now c.in-Some.field-0 c.shown_rows.result
    (scene_of c.shown_rows.new.stage) c.outside_of-outside.ensures edge c.shown_rows.ensures.gives
