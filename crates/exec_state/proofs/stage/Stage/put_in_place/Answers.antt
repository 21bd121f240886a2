use Rattle.std.proofs.Common.{◌≡◌, List, true, false, Err, sym, ap, subst, ◌∙◌}
use Rattle.val_types.specs.declared.value.Value.{Value}
use Rattle.table_rules.specs.Stored.{key_taken, row_absent}
use Rattle.table_rules.specs.Stores.{fits_at}
use Rattle.dml_rows.specs.row_store.declared.refusal.RowRefusal.{RowRefusal}
use Rattle.dml_rows.specs.row_store.Stores.{Stores, exchange}
use Rattle.sql_meaning.specs.Changing.{put_in_place}
use Rattle.exec_state.specs.Stage.{scene_of}
use Rattle.exec_state.proofs.Stored.{failed_so, unfit_in_place, not_in_place, put_there, key_there}
use Rattle.exec_state.proofs.stage.Stage.put_in_place.Goals as goal

pub returns-then-not-fits_at-clause-gives : goal.returns-then-not-fits_at-clause-gives
unfolding scene_of
returns-then-not-fits_at-clause-gives c = λ name here.
    let unfit : fits_at c.args.at c.args.new c.args.self.now.tables.tables ≡ false =
    ap (λ (row : List Value). fits_at c.args.at row c.args.self.now.tables.tables) (sym c.get.ensures) ∙ sym c.if-not-fits_at.ensures in
    unfit_in_place name c.args.old.now c.args.new c.args.at (scene_of c.args.self.now) here unfit

pub replace_row_at-requires : goal.replace_row_at-requires
replace_row_at-requires c = ap (λ (row : List Value). fits_at c.args.at row c.args.self.now.tables.tables) (sym c.get.ensures) ∙ sym c.if-not-fits_at.ensures

pub returns-in-Ok-clause-gives : goal.returns-in-Ok-clause-gives
unfolding scene_of
returns-in-Ok-clause-gives c = λ name here.
    let fits : fits_at c.args.at c.args.new c.args.self.now.tables.tables ≡ true =
    ap (λ (row : List Value). fits_at c.args.at row c.args.self.now.tables.tables) (sym c.get.ensures) ∙ sym c.if-not-fits_at.ensures in
    put_there name c.args.old.now c.args.new c.args.at (scene_of c.args.self.now) c.replace_row_at.new.tables.tables c.replace_row_at.new.undo here fits
    (c.in-Ok.ensures.stored name here) (c.in-Ok.ensures.noted name here)

pub returns-in-Err-Taken-clause-gives : goal.returns-in-Err-Taken-clause-gives
unfolding scene_of
returns-in-Err-Taken-clause-gives c = λ name here.
    let fits : fits_at c.args.at c.args.new c.args.self.now.tables.tables ≡ true =
    ap (λ (row : List Value). fits_at c.args.at row c.args.self.now.tables.tables) (sym c.get.ensures) ∙ sym c.if-not-fits_at.ensures in
    let stored : (exchange name c.args.old.now c.args.new c.args.self.now.tables.tables ≡ Err (key_taken c.in-Err-Taken.field-0-0)) × (c.replace_row_at.new.tables.tables ≡ c.args.self.now.tables.tables) =
    subst (λ (r : RowRefusal). Stores {A = Unit {0}} (Err r) (exchange name c.args.old.now c.args.new c.args.self.now.tables.tables) c.args.self.now.tables.tables c.replace_row_at.new.tables.tables) c.in-Err-Taken.field-0-is (c.in-Err-Taken.ensures.stored name here) in
    failed_so (put_in_place name c.args.old.now c.args.new (scene_of c.args.self.now)) 1062 (scene_of c.args.self.now) c.replace_row_at.new.tables.tables c.replace_row_at.new.undo
    (key_there name c.args.old.now c.args.new c.args.at (scene_of c.args.self.now) c.in-Err-Taken.field-0-0 here fits stored.0) stored.1 (c.in-Err-Taken.ensures.noted name here)

pub returns-in-Err-Absent-clause-gives : goal.returns-in-Err-Absent-clause-gives
unfolding scene_of
returns-in-Err-Absent-clause-gives c = λ name here.
    let fits : fits_at c.args.at c.args.new c.args.self.now.tables.tables ≡ true =
    ap (λ (row : List Value). fits_at c.args.at row c.args.self.now.tables.tables) (sym c.get.ensures) ∙ sym c.if-not-fits_at.ensures in
    let stored : (exchange name c.args.old.now c.args.new c.args.self.now.tables.tables ≡ Err row_absent) × (c.replace_row_at.new.tables.tables ≡ c.args.self.now.tables.tables) =
    subst (λ (r : RowRefusal). Stores {A = Unit {0}} (Err r) (exchange name c.args.old.now c.args.new c.args.self.now.tables.tables) c.args.self.now.tables.tables c.replace_row_at.new.tables.tables) c.in-Err-Absent.field-0-is (c.in-Err-Absent.ensures.stored name here) in
    failed_so (put_in_place name c.args.old.now c.args.new (scene_of c.args.self.now)) 1032 (scene_of c.args.self.now) c.replace_row_at.new.tables.tables c.replace_row_at.new.undo
    (not_in_place name c.args.old.now c.args.new c.args.at (scene_of c.args.self.now) here fits stored.0) stored.1 (c.in-Err-Absent.ensures.noted name here)
