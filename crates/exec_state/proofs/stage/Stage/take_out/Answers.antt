use Rattle.std.proofs.Common.{◌≡◌, Err, subst}
use Rattle.table_rules.specs.Stored.{key_taken, row_absent}
use Rattle.dml_rows.specs.row_store.declared.refusal.RowRefusal.{RowRefusal}
use Rattle.dml_rows.specs.row_store.Stores.{Stores, removal}
use Rattle.sql_meaning.specs.Changing.{take_out}
use Rattle.exec_state.specs.Stage.{scene_of}
use Rattle.exec_state.proofs.Stored.{failed_so, not_taken_out, taken_out}
use Rattle.exec_state.proofs.stage.Stage.take_out.Goals as goal

pub returns-in-Ok-clause-gives : goal.returns-in-Ok-clause-gives
unfolding scene_of
returns-in-Ok-clause-gives c = λ name here.
    taken_out name c.args.row.now c.args.at (scene_of c.args.self.now) c.remove_row_at.new.tables.tables c.remove_row_at.new.undo here (c.in-Ok.ensures.stored name here) (c.in-Ok.ensures.noted name here)

pub returns-in-Err-Taken-clause-gives : goal.returns-in-Err-Taken-clause-gives
unfolding scene_of
returns-in-Err-Taken-clause-gives c = λ name here.
    let stored : (removal name c.args.row.now c.args.self.now.tables.tables ≡ Err (key_taken c.in-Err-Taken.field-0-0)) × (c.remove_row_at.new.tables.tables ≡ c.args.self.now.tables.tables) =
    subst (λ (r : RowRefusal). Stores {A = Unit {0}} (Err r) (removal name c.args.row.now c.args.self.now.tables.tables) c.args.self.now.tables.tables c.remove_row_at.new.tables.tables) c.in-Err-Taken.field-0-is (c.in-Err-Taken.ensures.stored name here) in
    failed_so (take_out name c.args.row.now (scene_of c.args.self.now)) 1032 (scene_of c.args.self.now) c.remove_row_at.new.tables.tables c.remove_row_at.new.undo
    (not_taken_out name c.args.row.now c.args.at (scene_of c.args.self.now) _ here stored.0) stored.1 (c.in-Err-Taken.ensures.noted name here)

pub returns-in-Err-Absent-clause-gives : goal.returns-in-Err-Absent-clause-gives
unfolding scene_of
returns-in-Err-Absent-clause-gives c = λ name here.
    let stored : (removal name c.args.row.now c.args.self.now.tables.tables ≡ Err row_absent) × (c.remove_row_at.new.tables.tables ≡ c.args.self.now.tables.tables) =
    subst (λ (r : RowRefusal). Stores {A = Unit {0}} (Err r) (removal name c.args.row.now c.args.self.now.tables.tables) c.args.self.now.tables.tables c.remove_row_at.new.tables.tables) c.in-Err-Absent.field-0-is (c.in-Err-Absent.ensures.stored name here) in
    failed_so (take_out name c.args.row.now (scene_of c.args.self.now)) 1032 (scene_of c.args.self.now) c.remove_row_at.new.tables.tables c.remove_row_at.new.undo
    (not_taken_out name c.args.row.now c.args.at (scene_of c.args.self.now) _ here stored.0) stored.1 (c.in-Err-Absent.ensures.noted name here)
