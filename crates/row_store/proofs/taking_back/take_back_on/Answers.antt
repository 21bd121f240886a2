use Rattle.std.proofs.Common.{◌≡◌, List, true, Some, sym, ap, subst, ◌∙◌}
use Rattle.table_sheet.specs.Pages.{rows_on}
use Rattle.val_types.specs.declared.value.Value.{Value}
use Rattle.val_types.specs.declared.definitions.TableDef.{TableDef}
use Rattle.val_types.specs.Keys.{collide, primary_key}
use Rattle.table_rules.specs.Stored.{rows_beside}
use Rattle.std.specs.Prelude.{is_some}
use Rattle.std.specs.List.{list_any}
use Rattle.val_types.specs.declared.change.Change.{Change}
use Rattle.val_types.specs.declared.change.Change.TheVariants.{Insert, Update}
use Rattle.table_rules.specs.Changes.{rows_after, with_row}
use Rattle.val_types.specs.Changes.{inverse}
use Rattle.table_rules.proofs.Taking.{Kept}
use Rattle.row_store.proofs.Keeping.{kept_by}
use Rattle.row_store.proofs.Undoing.{out_is_beside, Exchanged, exchanged}
use Rattle.row_store.proofs.taking_back.take_back_on.Goals as goal

pub returns-in-Insert-clause-rows : goal.returns-in-Insert-clause-rows
returns-in-Insert-clause-rows c =
    let kept : Kept c.args.sheet.now.definition (rows_on c.args.sheet.now) = kept_by c.args.sheet.now.definition (rows_on c.args.sheet.now) c.requires.kept in
    let step : is_some (rows_after c.args.sheet.now.definition (inverse (Insert c.in-Insert.table c.in-Insert.row)) (rows_on c.args.sheet.now)) ≡ true =
    subst (λ (change : Change). is_some (rows_after c.args.sheet.now.definition (inverse change) (rows_on c.args.sheet.now)) ≡ true) c.in-Insert.is c.requires.step in
    ap (λ (change : Change). rows_after c.args.sheet.now.definition (inverse change) (rows_on c.args.sheet.now)) c.in-Insert.is
    ∙ out_is_beside c.args.sheet.now.definition c.in-Insert.row (rows_on c.args.sheet.now) kept step
    ∙ ap (λ (row : List Value). Some (rows_beside c.args.sheet.now.definition (primary_key c.args.sheet.now.definition row) (rows_on c.args.sheet.now))) (sym c.get.ensures)
    ∙ ap (λ (rows : List (List Value)). Some rows) (sym c.take_same.ensures.rows)

pub put_back_row-requires-in-Update-clause-free : goal.put_back_row-requires-in-Update-clause-free
put_back_row-requires-in-Update-clause-free c =
    let kept : Kept c.args.sheet.now.definition (rows_on c.args.sheet.now) = kept_by c.args.sheet.now.definition (rows_on c.args.sheet.now) c.requires.kept in
    let step : is_some (rows_after c.args.sheet.now.definition (inverse (Update c.in-Update.table c.in-Update.before c.in-Update.after)) (rows_on c.args.sheet.now)) ≡ true =
    subst (λ (change : Change). is_some (rows_after c.args.sheet.now.definition (inverse change) (rows_on c.args.sheet.now)) ≡ true) c.in-Update.is c.requires.step in
    let both : Exchanged c.args.sheet.now.definition c.in-Update.after c.in-Update.before (rows_on c.args.sheet.now) = exchanged c.args.sheet.now.definition c.in-Update.after c.in-Update.before (rows_on c.args.sheet.now) kept step in
    (ap (λ (d : TableDef). list_any (collide d c.in-Update.before) (rows_on c.take_same-in-Update.new.self)) c.take_same-in-Update.ensures.stays.definition
    ∙ ap (λ (rows : List (List Value)). list_any (collide c.args.sheet.now.definition c.in-Update.before) rows)
    (c.take_same-in-Update.ensures.rows ∙ ap (λ (row : List Value). rows_beside c.args.sheet.now.definition (primary_key c.args.sheet.now.definition row) (rows_on c.args.sheet.now)) c.get-in-Update.ensures)
    ∙ both.free)

pub returns-clause-rows : goal.returns-clause-rows
returns-clause-rows c =
    let kept : Kept c.args.sheet.now.definition (rows_on c.args.sheet.now) = kept_by c.args.sheet.now.definition (rows_on c.args.sheet.now) c.requires.kept in
    let step : is_some (rows_after c.args.sheet.now.definition (inverse (Update c.in-Update.table c.in-Update.before c.in-Update.after)) (rows_on c.args.sheet.now)) ≡ true =
    subst (λ (change : Change). is_some (rows_after c.args.sheet.now.definition (inverse change) (rows_on c.args.sheet.now)) ≡ true) c.in-Update.is c.requires.step in
    let both : Exchanged c.args.sheet.now.definition c.in-Update.after c.in-Update.before (rows_on c.args.sheet.now) = exchanged c.args.sheet.now.definition c.in-Update.after c.in-Update.before (rows_on c.args.sheet.now) kept step in
    ap (λ (change : Change). rows_after c.args.sheet.now.definition (inverse change) (rows_on c.args.sheet.now)) c.in-Update.is
    ∙ both.made
    ∙ sym (ap (λ (rows : List (List Value)). Some rows)
    (c.put_back_row-in-Update.ensures.rows
    ∙ ap (λ (d : TableDef). with_row d c.in-Update.before (rows_on c.take_same-in-Update.new.self)) c.take_same-in-Update.ensures.stays.definition
    ∙ ap (with_row c.args.sheet.now.definition c.in-Update.before)
    (c.take_same-in-Update.ensures.rows ∙ ap (λ (row : List Value). rows_beside c.args.sheet.now.definition (primary_key c.args.sheet.now.definition row) (rows_on c.args.sheet.now)) c.get-in-Update.ensures)))
