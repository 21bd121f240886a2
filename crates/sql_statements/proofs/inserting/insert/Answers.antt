use Rattle.std.proofs.Common.{◌≡◌, refl, ap, ◌∙◌}
use Rattle.std.proofs.lemmas.Result.{err_from_is_err_and}
use Rattle.val_types.specs.declared.definitions.TableDef.{TableDef}
use Rattle.table_rules.specs.Stored.{rows_of}
use Rattle.table_rules.specs.Tables.{Table}
use Rattle.changed_rows.specs.catalog_rules.Checks.{given_columns}
use Rattle.changed_rows.specs.catalog_rules.Defined.{places_of}
use Rattle.changed_rows.specs.catalog_rules.Objects.{columns_of}
use Rattle.sql_tree.specs.StatementView.{view_supply}
use Rattle.exec_state.specs.Stage.{scene_of}
use Rattle.changed_rows.specs.Changed.{inserting_of, manner_of}
use Rattle.sql_statements.proofs.Inserts.{insert_done, insert_not_all}
use Rattle.sql_statements.proofs.inserting.insert.Goals as goal

pub returns-in_err-so_far-clause-gives : goal.returns-in_err-so_far-clause-gives
returns-in_err-so_far-clause-gives g c =
    let t : Table = record { definition = c.in_ok-target.target.definition; rows = rows_of c.args.table.now c.args.stage.now.tables.tables } in
    let given : c.in_ok-places.places ≡ places_of (columns_of t.definition) (given_columns t.definition c.args.names.now) =
    c.in_ok-places.ensures ∙ ap (λ (d : TableDef). places_of (columns_of d) (given_columns d c.args.names.now)) c.get.ensures in
    let p = err_from_is_err_and c.from_residual-in_err-so_far.result c.from_residual-in_err-so_far.ensures.1 in
    rw (p.1, p.2) (insert_not_all c.args.around.now c.args.forced c.args.table.now c.args.names.now (view_supply c.args.source.now) (manner_of c.args.manner) t c.as_slice.result.now c.in_ok-places.places _
    (scene_of c.args.stage.now) (scene_of c.args.stage.now) (scene_of c.insert_all.new.stage) (c.in_ok-target.ensures.table t.rows refl) given c.as_slice.ensures c.in_err-so_far.ensures.gives)

pub returns-clause-gives : goal.returns-clause-gives
returns-clause-gives g c =
    let t : Table = record { definition = c.in_ok-target.target.definition; rows = rows_of c.args.table.now c.args.stage.now.tables.tables } in
    let given : c.in_ok-places.places ≡ places_of (columns_of t.definition) (given_columns t.definition c.args.names.now) =
    c.in_ok-places.ensures ∙ ap (λ (d : TableDef). places_of (columns_of d) (given_columns d c.args.names.now)) c.get.ensures in
    insert_done c.args.around.now c.args.forced c.args.table.now c.args.names.now (view_supply c.args.source.now) (manner_of c.args.manner) t c.as_slice.result.now c.in_ok-places.places (inserting_of c.in_ok-so_far.so_far) _
    (scene_of c.args.stage.now) (scene_of c.args.stage.now) (scene_of c.insert_all.new.stage) (c.in_ok-target.ensures.table t.rows refl) given c.as_slice.ensures c.in_ok-so_far.ensures.gives c.inserting.ensures
