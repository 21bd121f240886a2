use Rattle.std.proofs.Common.{List, subst, ◌∙◌}
use Rattle.std.proofs.lemmas.Result.{err_from_is_err_and}
use Rattle.val_types.specs.declared.value.Value.{Value}
use Rattle.table_rules.specs.Tables.{Table}
use Rattle.sql_tree.specs.declared.expressions.FromClause.{out-FromClause}
use Rattle.sql_tree.specs.View.{view_part, view_selected}
use Rattle.exec_state.specs.Stage.{EndsAs, scene_of}
use Rattle.sql_evaluation.specs.Seen.{shown_in}
use Rattle.sql_evaluation.proofs.Scanning.{from_done, from_not_kept_of, from_not_ordered_at, from_not_seen_at, where_same, seen_there}
use Rattle.sql_evaluation.proofs.Saving.{where_tabled}
use Rattle.sql_evaluation.proofs.queries.rows_from.Goals as goal

pub returns-in_err-definition-clause-gives : goal.returns-in_err-definition-clause-gives
returns-in_err-definition-clause-gives g c =
    let p = err_from_is_err_and c.from_residual.result c.from_residual.ensures.1 in
    rw (p.1, p.2) (from_not_seen_at c.args.around.now c.args.views.now (view_selected c.args.what.now) c.args.from.now c.outside_of-outside.result (view_part (out-FromClause c.args.from.now).filter) _ c.args.stage.now c.in_err-definition.ensures)

pub returns-in_err-rows-clause-gives : goal.returns-in_err-rows-clause-gives
returns-in_err-rows-clause-gives g c =
    let seen = c.in_ok-definition.ensures in
    let t : Table = record { definition = c.in_ok-definition.field-0.definition; rows = seen.all } in
    let same = where_same c.args.around.now c.args.views.now _ _ t.definition _ _ c.in_ok-definition.field-0.rows (scene_of c.args.stage.now) c.outside_of-outside.ensures seen in
    let there = seen_there _ _ t.definition _ c.args.stage.now c.in_ok-definition.field-0.rows seen in
    let p = err_from_is_err_and c.from_residual-in_err-rows.result c.from_residual-in_err-rows.ensures.1 in
    rw (p.1, p.2) (from_not_kept_of c.args.around.now c.args.views.now (view_selected c.args.what.now) c.args.from.now t c.in_ok-definition.field-0.rows _ (scene_of c.args.stage.now) (scene_of c.args.stage.now) (scene_of c.where_rows.new.stage) there same c.in_err-rows.ensures.gives)

pub returns-in_err-rows-2-clause-gives : goal.returns-in_err-rows-2-clause-gives
returns-in_err-rows-2-clause-gives g c =
    let seen = c.in_ok-definition.ensures in
    let t : Table = record { definition = c.in_ok-definition.field-0.definition; rows = seen.all } in
    let same = where_same c.args.around.now c.args.views.now _ _ t.definition _ _ c.in_ok-definition.field-0.rows (scene_of c.args.stage.now) c.outside_of-outside.ensures seen in
    let there = seen_there _ _ t.definition _ c.args.stage.now c.in_ok-definition.field-0.rows seen in
    let tabled = where_tabled c.args.around.now c.args.views.now _ _ t.definition _ c.args.stage.now.tables _ c.in_ok-rows.rows (scene_of c.args.stage.now) (scene_of c.where_rows.new.stage) c.tables_are_kept.ensures seen (same ∙ c.in_ok-rows.ensures.gives) in
    let p = err_from_is_err_and c.from_residual-in_err-rows-2.result c.from_residual-in_err-rows-2.ensures.1 in
    rw (p.1, p.2) (from_not_ordered_at c.args.around.now c.args.views.now (view_selected c.args.what.now) c.args.from.now t c.in_ok-rows.rows _ (scene_of c.args.stage.now) (scene_of c.args.stage.now) (scene_of c.where_rows.new.stage) (scene_of c.placed_rows.new.stage) there (same ∙ c.in_ok-rows.ensures.gives) (c.in_err-rows-2.ensures.gives tabled))

pub returns-clause-gives : goal.returns-clause-gives
returns-clause-gives g c =
    let seen = c.in_ok-definition.ensures in
    let t : Table = record { definition = c.in_ok-definition.field-0.definition; rows = seen.all } in
    let same = where_same c.args.around.now c.args.views.now _ _ t.definition _ _ c.in_ok-definition.field-0.rows (scene_of c.args.stage.now) c.outside_of-outside.ensures seen in
    let there = seen_there _ _ t.definition _ c.args.stage.now c.in_ok-definition.field-0.rows seen in
    let tabled = where_tabled c.args.around.now c.args.views.now _ _ t.definition _ c.args.stage.now.tables _ c.in_ok-rows.rows (scene_of c.args.stage.now) (scene_of c.where_rows.new.stage) c.tables_are_kept.ensures seen (same ∙ c.in_ok-rows.ensures.gives) in
    from_done c.args.around.now c.args.views.now (view_selected c.args.what.now) c.args.from.now t c.in_ok-rows.rows c.in_ok-rows-2.rows c.shown_rows.result
    (scene_of c.args.stage.now) (scene_of c.args.stage.now) (scene_of c.where_rows.new.stage) (scene_of c.placed_rows.new.stage) (scene_of c.shown_rows.new.stage)
    there (same ∙ c.in_ok-rows.ensures.gives) (c.in_ok-rows-2.ensures.gives tabled)
    (subst (λ (xs : List (List Value)). EndsAs c.shown_rows.result (scene_of c.shown_rows.new.stage) (shown_in c.args.around.now c.args.views.now t.definition (view_selected c.args.what.now) xs (scene_of c.placed_rows.new.stage))) c.limited-rows.ensures c.shown_rows.ensures.gives)
