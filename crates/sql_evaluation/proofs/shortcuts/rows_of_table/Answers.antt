use Rattle.std.proofs.Common.{rules, ◌≡◌, List, [], ◌∷◌, Option, Ok, ap, subst, ◌∙◌}
use Rattle.val_types.specs.declared.value.Value.{Value}
use Rattle.val_types.specs.declared.refusal.SqlRefusal.{SqlRefusal}
use Rattle.sql_tree.specs.View.{view_from, view_selected}
use Rattle.key_order.specs.where_candidates.session_ctx.sql_meaning.Scenes.{done}
use Rattle.key_order.specs.Given.{IsWholeAnswer}
use Rattle.exec_state.specs.Stage.{scene_of}
use Rattle.sql_evaluation.proofs.Saving.{ends_say}
use Rattle.sql_evaluation.proofs.shortcuts.rows_of_table.Goals as goal

pub returns-in_ok-push-in-Some-clause-gives : goal.returns-in_ok-push-in-Some-clause-gives
returns-in_ok-push-in-Some-clause-gives g c =
    let alone : c.in-Some.row ∷ [] ≡ c.push.new.self = search rules in
    let ends = subst (λ (r : Option (List Value)). IsWholeAnswer {E = SqlRefusal} c.outside_of-outside.result (view_selected c.args.what.now) (view_from c.args.from.now) c.args.stage.now.tables.tables (Ok r)) c.in-Some.is c.in_ok-row.ensures in
    ends_say SqlRefusal c.args.around.now c.args.views.now c.outside_of-outside.result (view_selected c.args.what.now) (view_from c.args.from.now) c.args.stage.now c.in-Some.row c.outside_of-outside.ensures ends
    ∙ ap (λ (rows : List (List Value)). done rows (scene_of c.args.stage.now)) alone
