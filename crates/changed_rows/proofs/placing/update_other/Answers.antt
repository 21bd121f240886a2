use Rattle.std.proofs.lemmas.Result.{err_from_is_err_and}
use Rattle.sql_tree.specs.StatementView.{view_sets}
use Rattle.sql_evaluation.specs.exec_state.Stage.{scene_of}
use Rattle.changed_rows.specs.Inserted.{counted_of}
use Rattle.changed_rows.proofs.Inserts.{placed_updating, placed_not_updated}
use Rattle.changed_rows.proofs.placing.update_other.Goals as goal

pub returns-in_err-count-clause-gives : goal.returns-in_err-count-clause-gives
returns-in_err-count-clause-gives g c =
    let p = err_from_is_err_and c.from_residual-in_err-count.result c.from_residual-in_err-count.ensures.1 in
    rw (p.1, p.2) (placed_not_updated c.args.table.now.around.now c.args.table.now.definition.now (view_sets c.args.sets.now) (counted_of c.args.counted) c.args.affected c.in_err-count.field-0.0 c.args.last_id c.in_ok-other.other c.in_ok-inserted.inserted
    (scene_of c.args.stage.now) (scene_of c.update_seeing.new.stage) c.in_ok-other.ensures c.in_ok-inserted.ensures c.in_err-count.ensures.gives)

pub returns-clause-gives : goal.returns-clause-gives
returns-clause-gives g c =
    placed_updating c.args.table.now.around.now c.args.table.now.definition.now (view_sets c.args.sets.now) (counted_of c.args.counted) c.args.affected c.in_ok-count.count c.in-Some.affected c.args.last_id c.in_ok-other.other c.in_ok-inserted.inserted
    (scene_of c.args.stage.now) (scene_of c.update_seeing.new.stage) c.in_ok-other.ensures c.in_ok-inserted.ensures c.in_ok-count.ensures.gives c.in-Some.ensures
