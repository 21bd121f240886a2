use Rattle.std.proofs.Common.{◌≡◌, ap, length, arith}
use Rattle.val_types.specs.declared.definitions.TableDef.{TableDef}
use Rattle.std.proofs.lemmas.Result.{err_from_is_err_and}
use Rattle.table_rules.specs.Stored.{key_tests}
use Rattle.sql_evaluation.specs.sql_meaning.Changing.{clear_way}
use Rattle.sql_evaluation.specs.Seen.{world_of}
use Rattle.sql_evaluation.specs.exec_state.Stage.{scene_of}
use Rattle.changed_rows.proofs.Inserts.{cleared_fail_at}
use Rattle.changed_rows.proofs.placing.clear_way.Goals as goal

pub returns-in_err-more-clause-gives : goal.returns-in_err-more-clause-gives
returns-in_err-more-clause-gives g c =
    let same : length c.get.result.now.uniques ≡ length c.args.table.now.definition.now.uniques = ap (λ (d : TableDef). length d.uniques) c.get.ensures in
    let p = err_from_is_err_and c.from_residual.result c.from_residual.ensures.1 in
    rw (p.1, p.2) (cleared_fail_at c.args.table.now.around.now c.args.table.now.definition.now c.args.row.now c.loop-which.which c.loop-which.deleted c.in_err-more.field-0.0 (scene_of c.loop-which.stage) (scene_of c.clear_key.new.stage)
    (clear_way (world_of c.args.table.now.around.now) c.args.table.now.definition.now (key_tests c.args.table.now.definition.now c.args.row.now) (scene_of c.args.stage.now))
    (omega (arith, same)) c.in_err-more.ensures.gives c.loop-which.invariant.gives)
