use Rattle.std.proofs.Common.{◌≡◌, List, true, Option, Some, None, Err, refl, sym, ap, subst, ◌∙◌}
use Rattle.std.specs.Prelude.{IsSome}
use Rattle.std.specs.List.{list_any}
use Rattle.val_types.specs.declared.value.Value.{Value}
use Rattle.val_types.specs.declared.definitions.TableDef.{TableDef}
use Rattle.val_types.specs.Fitting.{row_fits}
use Rattle.val_types.specs.Keys.{primary_key, collide}
use Rattle.table_rules.specs.Changes.{with_row}
use Rattle.table_rules.specs.Stored.{row_of_key, rows_beside}
use Rattle.row_index.specs.row_sheets.Over.{over}
use Rattle.table_sheet.specs.Pages.{has_entry, rows_on}
use Rattle.table_sheet.specs.Refusals.{Inserted}
use Rattle.table_sheet.proofs.Shown.{TakenRow, taken_row, all_stay, sound}
use Rattle.table_sheet.proofs.Refusing.{refused_same, replaced_err}
use Rattle.table_sheet.proofs.sheet.Sheet.replace.Goals as goal

pub returns-in-None-clause-stored : goal.returns-in-None-clause-stored
returns-in-None-clause-stored c =
    let none : row_of_key c.args.self.now.definition c.args.key.now (rows_on c.args.self.now) ≡ None = sym c.in_ok-before.ensures.row ∙ c.in-None.is in
    (none, c.in_ok-before.ensures.rows ∙ all_stay c.args.self.now.definition c.args.key.now (rows_on c.args.self.now) none)

pub put_back_row-requires-clause-entry : goal.put_back_row-requires-clause-entry
put_back_row-requires-clause-entry c =
    let found : row_of_key c.args.self.now.definition c.args.key.now (rows_on c.args.self.now) ≡ Some c.in-Some.before = sym c.in_ok-before.ensures.row ∙ c.in-Some.is in
    let taken : TakenRow c.args.self.now.definition c.args.key.now c.in-Some.before (rows_on c.args.self.now) =
    taken_row c.args.self.now.definition c.args.key.now c.in-Some.before (over c.args.self.now.entries c.args.self.now.committed) (sound c.args.self.now.definition (over c.args.self.now.entries c.args.self.now.committed) c.definition.ensures.page.sound) found in
    let same : c.insert.new.self.definition ≡ c.args.self.now.definition = c.insert.ensures.stays.definition ∙ c.take.ensures.stays.definition in
    let entry : has_entry c.args.key.now c.insert.new.self ≡ true = c.insert.ensures.stays.entries c.args.key.now (c.in_ok-before.ensures.entry (subst (λ (o : Option (List Value)). IsSome o) (sym c.in-Some.is) refl)) in
    ap (λ (d : TableDef). has_entry (primary_key d c.in-Some.before) c.insert.new.self) same ∙ ap (λ (k : List Value). has_entry k c.insert.new.self) (sym taken.its_key) ∙ entry

pub put_back_row-requires-clause-fits : goal.put_back_row-requires-clause-fits
put_back_row-requires-clause-fits c =
    let found : row_of_key c.args.self.now.definition c.args.key.now (rows_on c.args.self.now) ≡ Some c.in-Some.before = sym c.in_ok-before.ensures.row ∙ c.in-Some.is in
    let taken : TakenRow c.args.self.now.definition c.args.key.now c.in-Some.before (rows_on c.args.self.now) =
    taken_row c.args.self.now.definition c.args.key.now c.in-Some.before (over c.args.self.now.entries c.args.self.now.committed) (sound c.args.self.now.definition (over c.args.self.now.entries c.args.self.now.committed) c.definition.ensures.page.sound) found in
    let same : c.insert.new.self.definition ≡ c.args.self.now.definition = c.insert.ensures.stays.definition ∙ c.take.ensures.stays.definition in
    ap (λ (d : TableDef). row_fits d.columns c.in-Some.before) same ∙ taken.fits

pub put_back_row-requires-clause-free : goal.put_back_row-requires-clause-free
put_back_row-requires-clause-free c =
    let found : row_of_key c.args.self.now.definition c.args.key.now (rows_on c.args.self.now) ≡ Some c.in-Some.before = sym c.in_ok-before.ensures.row ∙ c.in-Some.is in
    let taken : TakenRow c.args.self.now.definition c.args.key.now c.in-Some.before (rows_on c.args.self.now) =
    taken_row c.args.self.now.definition c.args.key.now c.in-Some.before (over c.args.self.now.entries c.args.self.now.committed) (sound c.args.self.now.definition (over c.args.self.now.entries c.args.self.now.committed) c.definition.ensures.page.sound) found in
    let same : c.insert.new.self.definition ≡ c.args.self.now.definition = c.insert.ensures.stays.definition ∙ c.take.ensures.stays.definition in
    let beside = refused_same c.in-Err.refusal c.take.new.self.definition c.args.row (rows_on c.take.new.self) (rows_on c.insert.new.self) c.in-Err.ensures.stored ∙ c.in_ok-before.ensures.rows in
    ap (λ (d : TableDef). list_any (collide d c.in-Some.before) (rows_on c.insert.new.self)) same
    ∙ ap (λ (rows : List (List Value)). list_any (collide c.args.self.now.definition c.in-Some.before) rows) beside
    ∙ taken.free

pub returns-in-Err-clause-stored : goal.returns-in-Err-clause-stored
returns-in-Err-clause-stored c =
    let found : row_of_key c.args.self.now.definition c.args.key.now (rows_on c.args.self.now) ≡ Some c.in-Some.before = sym c.in_ok-before.ensures.row ∙ c.in-Some.is in
    let taken : TakenRow c.args.self.now.definition c.args.key.now c.in-Some.before (rows_on c.args.self.now) =
    taken_row c.args.self.now.definition c.args.key.now c.in-Some.before (over c.args.self.now.entries c.args.self.now.committed) (sound c.args.self.now.definition (over c.args.self.now.entries c.args.self.now.committed) c.definition.ensures.page.sound) found in
    let same : c.insert.new.self.definition ≡ c.args.self.now.definition = c.insert.ensures.stays.definition ∙ c.take.ensures.stays.definition in
    let beside = refused_same c.in-Err.refusal c.take.new.self.definition c.args.row (rows_on c.take.new.self) (rows_on c.insert.new.self) c.in-Err.ensures.stored ∙ c.in_ok-before.ensures.rows in
    let back =
    c.put_back_row.ensures.rows
    ∙ ap (λ (d : TableDef). with_row d c.in-Some.before (rows_on c.insert.new.self)) same
    ∙ ap (with_row c.args.self.now.definition c.in-Some.before) beside
    ∙ taken.back in
    let stored : Inserted (Err c.in-Err.refusal) c.args.self.now.definition c.args.row (rows_beside c.args.self.now.definition c.args.key.now (rows_on c.args.self.now)) (rows_on c.insert.new.self) =
    subst (λ (rows : List (List Value)). Inserted (Err c.in-Err.refusal) c.args.self.now.definition c.args.row rows (rows_on c.insert.new.self)) c.in_ok-before.ensures.rows
    (subst (λ (d : TableDef). Inserted (Err c.in-Err.refusal) d c.args.row (rows_on c.take.new.self) (rows_on c.insert.new.self)) c.take.ensures.stays.definition c.in-Err.ensures.stored) in
    replaced_err c.in-Err.refusal c.args.self.now.definition c.args.key.now c.args.row c.in-Some.before (rows_on c.args.self.now) (rows_on c.insert.new.self) (rows_on c.put_back_row.new.self) found stored back
