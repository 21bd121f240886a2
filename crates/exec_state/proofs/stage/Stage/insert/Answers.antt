use Rattle.std.proofs.Common.{◌≡◌, List, true, false, Err, sym, ap, subst, ◌∙◌}
use Rattle.val_types.specs.declared.value.Value.{Value}
use Rattle.val_types.specs.declared.change.Change.TheVariants.{Insert}
use Rattle.table_rules.specs.Stored.{key_taken, row_absent, insertion}
use Rattle.table_rules.specs.Stores.{fits_at}
use Rattle.dml_rows.specs.row_store.declared.refusal.RowRefusal.{RowRefusal}
use Rattle.dml_rows.specs.row_store.Stores.{Stores}
use Rattle.sql_meaning.specs.Scenes.{make}
use Rattle.exec_state.specs.Stage.{scene_of}
use Rattle.exec_state.proofs.Stored.{failed_so, insert_unfit, inserted, insert_refused}
use Rattle.exec_state.proofs.stage.Stage.insert.Goals as goal

pub returns-then-not-fits_at-clause-gives : goal.returns-then-not-fits_at-clause-gives
unfolding scene_of
returns-then-not-fits_at-clause-gives c = λ name here.
    let unfit : fits_at c.args.at c.args.row c.args.self.now.tables.tables ≡ false =
    ap (λ (row : List Value). fits_at c.args.at row c.args.self.now.tables.tables) (sym c.get.ensures) ∙ sym c.if-not-fits_at.ensures in
    insert_unfit name c.args.row c.args.at (scene_of c.args.self.now) here unfit

pub insert_row_at-requires : goal.insert_row_at-requires
insert_row_at-requires c = ap (λ (row : List Value). fits_at c.args.at row c.args.self.now.tables.tables) (sym c.get.ensures) ∙ sym c.if-not-fits_at.ensures

pub returns-in-Err-Taken-clause-gives : goal.returns-in-Err-Taken-clause-gives
unfolding scene_of
returns-in-Err-Taken-clause-gives c = λ name here.
    let fits : fits_at c.args.at c.args.row c.args.self.now.tables.tables ≡ true =
    ap (λ (row : List Value). fits_at c.args.at row c.args.self.now.tables.tables) (sym c.get.ensures) ∙ sym c.if-not-fits_at.ensures in
    let stored : (insertion name c.args.row c.args.self.now.tables.tables ≡ Err (key_taken c.in-Err-Taken.field-0-0)) × (c.insert_row_at.new.tables.tables ≡ c.args.self.now.tables.tables) =
    subst (λ (r : RowRefusal). Stores {A = Unit {0}} (Err r) (insertion name c.args.row c.args.self.now.tables.tables) c.args.self.now.tables.tables c.insert_row_at.new.tables.tables) c.in-Err-Taken.field-0-is (c.in-Err-Taken.ensures.stored name here) in
    failed_so (make 1062 (Insert name c.args.row) (scene_of c.args.self.now)) 1062 (scene_of c.args.self.now) c.insert_row_at.new.tables.tables c.insert_row_at.new.undo
    (insert_refused name c.args.row c.args.at (scene_of c.args.self.now) _ here fits stored.0)
    stored.1 (c.in-Err-Taken.ensures.noted name here)

pub returns-in-Err-Absent-clause-gives : goal.returns-in-Err-Absent-clause-gives
unfolding scene_of
returns-in-Err-Absent-clause-gives c = λ name here.
    let fits : fits_at c.args.at c.args.row c.args.self.now.tables.tables ≡ true =
    ap (λ (row : List Value). fits_at c.args.at row c.args.self.now.tables.tables) (sym c.get.ensures) ∙ sym c.if-not-fits_at.ensures in
    let stored : (insertion name c.args.row c.args.self.now.tables.tables ≡ Err (row_absent)) × (c.insert_row_at.new.tables.tables ≡ c.args.self.now.tables.tables) =
    subst (λ (r : RowRefusal). Stores {A = Unit {0}} (Err r) (insertion name c.args.row c.args.self.now.tables.tables) c.args.self.now.tables.tables c.insert_row_at.new.tables.tables) c.in-Err-Absent.field-0-is (c.in-Err-Absent.ensures.stored name here) in
    failed_so (make 1062 (Insert name c.args.row) (scene_of c.args.self.now)) 1062 (scene_of c.args.self.now) c.insert_row_at.new.tables.tables c.insert_row_at.new.undo
    (insert_refused name c.args.row c.args.at (scene_of c.args.self.now) _ here fits stored.0)
    stored.1 (c.in-Err-Absent.ensures.noted name here)

pub returns-in-Ok-clause-gives : goal.returns-in-Ok-clause-gives
unfolding scene_of
returns-in-Ok-clause-gives c = λ name here.
    inserted name c.args.row (scene_of c.args.self.now) c.insert_row_at.new.tables.tables c.insert_row_at.new.undo (c.in-Ok.ensures.stored name here) (c.in-Ok.ensures.noted name here)
