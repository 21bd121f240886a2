-- Rows that fit, rise and are apart stay so through what is done with them.
use Rattle.std.proofs.Common.{◌≡◌, ◌≤◌, List, [], Bool, true, false, ◌&&◌, Some, Result, Ok, Err, refl, sym, ap, ◌∙◌, arith}
use Rattle.std.specs.List.{list_all}
use Rattle.std.proofs.lemmas.Bool.{and_parts, and_from}
use Rattle.val_types.specs.declared.value.Value.{Value}
use Rattle.val_types.specs.declared.change.Change.{Change}
use Rattle.val_types.specs.declared.definitions.TableDef.{TableDef}
use Rattle.val_types.specs.Fitting.{row_fits}
use Rattle.val_types.specs.Keys.{primary_key}
use Rattle.table_rules.specs.Tables.{rise, are_apart}
use Rattle.table_rules.specs.Changes.{with_row, rows_after}
use Rattle.table_rules.specs.Stored.{rows_beside}
use Rattle.table_rules.proofs.Taking.{Kept, as_kept, is_kept, kept_with, rows_reversible}
use Rattle.table_sheet.specs.row_sheets.Slots.{Slot, keys_in, keys_rise, rows_in, row_slots, has_own_key, rows_are_kept}
use Rattle.table_sheet.specs.row_sheets.Over.{over}
use Rattle.table_sheet.specs.declared.overlay.Overlay.{Overlay}
use Rattle.table_sheet.specs.Pages.{Page, Stays, rows_on}
use Rattle.table_sheet.specs.Indexed.{Fits}
use Rattle.table_sheet.specs.Parts.{entry_slots}
use Rattle.table_sheet.specs.Standing.{is_standing}
use Rattle.row_store.specs.Rows.{HoldsRows}
use Rattle.table_sheet.specs.declared.refusal.SheetRefusal.{SheetRefusal}
use Rattle.table_sheet.specs.declared.refusal.SheetRefusal.TheVariants.{Taken, Absent, NoMemory}
use Rattle.table_sheet.specs.Refusals.{Inserted, Replaced, Deleted}
use Rattle.table_sheet.proofs.Shown.{kept_beside, free_rows}

pub kept_by : (d : TableDef) (rows : List (List Value)) → rows_are_kept d rows ≡ true → Kept d rows
kept_by d rows e =
    let two = and_parts (list_all (row_fits d.columns) rows && rise d rows) (are_apart d rows) e in
    let fits = and_parts (list_all (row_fits d.columns) rows) (rise d rows) two.0 in
    as_kept (record { definition = d; rows = rows }) (record { fit = fits.0; rising = fits.1; apart = two.1 })

kept_from : (d : TableDef) (rows : List (List Value)) → Kept d rows → rows_are_kept d rows ≡ true
kept_from d rows kept =
    let k = is_kept d rows kept in
    and_from (list_all (row_fits d.columns) rows && rise d rows) (are_apart d rows)
    (and_from (list_all (row_fits d.columns) rows) (rise d rows) k.fit k.rising) k.apart

kept_as : (d : TableDef) (rows new : List (List Value)) → new ≡ rows → Kept d rows → rows_are_kept d new ≡ true
kept_as d rows new same kept = ap (rows_are_kept d) same ∙ kept_from d rows kept

pub inserted_kept : (answer : Result (Unit {0}) SheetRefusal) (d : TableDef) (row : List Value) (old new : List (List Value)) → rows_are_kept d old ≡ true → row_fits d.columns row ≡ true
    → Inserted answer d row old new → rows_are_kept d new ≡ true
inserted_kept (Ok done) d row old new kept fits p = kept_as d (with_row d row old) new p.1 (kept_with d row old (kept_by d old kept) fits (free_rows d row old p.0))
inserted_kept (Err (Taken which)) d row old new kept fits p = ap (rows_are_kept d) p.1 ∙ kept
inserted_kept (Err Absent) d row old new kept fits p = absurd p
inserted_kept (Err NoMemory) d row old new kept fits p = ap (rows_are_kept d) p ∙ kept

pub replaced_kept : (answer : Result (Unit {0}) SheetRefusal) (d : TableDef) (key row : List Value) (old new : List (List Value)) → rows_are_kept d old ≡ true → row_fits d.columns row ≡ true
    → Replaced answer d key row old new → rows_are_kept d new ≡ true
replaced_kept (Ok done) d key row old new kept fits p =
    let beside = rows_beside d key old in
    kept_as d (with_row d row beside) new p.2 (kept_with d row beside (kept_beside d key old (kept_by d old kept)) fits (free_rows d row beside p.1))
replaced_kept (Err (Taken which)) d key row old new kept fits p = ap (rows_are_kept d) p.2 ∙ kept
replaced_kept (Err Absent) d key row old new kept fits p = ap (rows_are_kept d) p.1 ∙ kept
replaced_kept (Err NoMemory) d key row old new kept fits p = ap (rows_are_kept d) p ∙ kept

pub deleted_kept : (answer : Result (Unit {0}) SheetRefusal) (d : TableDef) (key : List Value) (old new : List (List Value)) → rows_are_kept d old ≡ true
    → Deleted answer d key old new → rows_are_kept d new ≡ true
deleted_kept (Ok done) d key old new kept p = kept_as d (rows_beside d key old) new p.1 (kept_beside d key old (kept_by d old kept))
deleted_kept (Err (Taken which)) d key old new kept p = absurd p
deleted_kept (Err Absent) d key old new kept p = ap (rows_are_kept d) p.1 ∙ kept
deleted_kept (Err NoMemory) d key old new kept p = ap (rows_are_kept d) p ∙ kept

same_kept : (b : Bool) (answer : Result (Unit {0}) SheetRefusal) (d : TableDef) (old new : List (List Value)) → rows_are_kept d old ≡ true
    → (b ≡ true → rows_are_kept d new ≡ true) → (b ≡ false → (answer ≡ Err Absent) × (new ≡ old)) → rows_are_kept d new ≡ true
same_kept true answer d old new kept there absent = there refl
same_kept false answer d old new kept there absent = ap (rows_are_kept d) (absent refl).1 ∙ kept

pub replaced_same_kept : (answer : Result (Unit {0}) SheetRefusal) (d : TableDef) (before row : List Value) (old new : List (List Value)) → rows_are_kept d old ≡ true → row_fits d.columns row ≡ true
    → (is_standing d before old ≡ true → Replaced answer d (primary_key d before) row old new) → (is_standing d before old ≡ false → (answer ≡ Err Absent) × (new ≡ old)) → rows_are_kept d new ≡ true
replaced_same_kept answer d before row old new kept fits there absent =
    same_kept (is_standing d before old) answer d old new kept (λ e. replaced_kept answer d (primary_key d before) row old new kept fits (there e)) absent

pub removed_same_kept : (answer : Result (Unit {0}) SheetRefusal) (d : TableDef) (row : List Value) (old new : List (List Value)) → rows_are_kept d old ≡ true
    → (is_standing d row old ≡ true → Deleted answer d (primary_key d row) old new) → (is_standing d row old ≡ false → (answer ≡ Err Absent) × (new ≡ old)) → rows_are_kept d new ≡ true
removed_same_kept answer d row old new kept there absent = same_kept (is_standing d row old) answer d old new kept (λ e. deleted_kept answer d (primary_key d row) old new kept (there e)) absent

pub changed_kept : (d : TableDef) (change : Change) (old new : List (List Value)) → rows_are_kept d old ≡ true → rows_after d change old ≡ Some new → rows_are_kept d new ≡ true
changed_kept d change old new kept made = kept_from d new (rows_reversible d change old new (kept_by d old kept) made).kept

-- ---- rows on a sheet

-- where nothing changed but what is shown
pub shown_holds : (old new : Page) → HoldsRows old → new.definition ≡ old.definition → new.committed ≡ old.committed → rows_are_kept old.definition (rows_on new) ≡ true → HoldsRows new
shown_holds old new h same committed kept = record {
  shown = ap (λ (d : TableDef). rows_are_kept d (rows_on new)) same ∙ kept;
  committed =
      ap (λ (d : TableDef). rows_are_kept d (rows_in new.committed)) same
      ∙ ap (λ (cs : List Slot). rows_are_kept old.definition (rows_in cs)) committed
      ∙ h.committed;
  own =
      committed ∙ h.own
      ∙ ap (λ (d : TableDef). row_slots d (rows_in old.committed)) (sym same)
      ∙ ap (λ (cs : List Slot). row_slots new.definition (rows_in cs)) (sym committed);
}

-- where the rows that are shown are there to stay
pub settled_holds : (old new : Page) → HoldsRows old → new.definition ≡ old.definition → rows_on new ≡ rows_on old → rows_in new.committed ≡ rows_on old → new.committed ≡ row_slots old.definition (rows_on old)
    → HoldsRows new
settled_holds old new h same rows settled committed = record {
  shown = ap (λ (d : TableDef). rows_are_kept d (rows_on new)) same ∙ ap (rows_are_kept old.definition) rows ∙ h.shown;
  committed = ap (λ (d : TableDef). rows_are_kept d (rows_in new.committed)) same ∙ ap (rows_are_kept old.definition) settled ∙ h.shown;
  own = committed ∙ ap (λ (d : TableDef). row_slots d (rows_on old)) (sym same) ∙ ap (row_slots new.definition) (sym settled);
}

-- where there are no rows
pub none_hold : (new : Page) → new.committed ≡ [] → new.entries ≡ [] → HoldsRows new
none_hold new committed entries = record {
  shown = ap (λ (es : List Slot). rows_are_kept new.definition (rows_in (over es new.committed))) entries ∙ ap (λ (cs : List Slot). rows_are_kept new.definition (rows_in cs)) committed;
  committed = ap (λ (cs : List Slot). rows_are_kept new.definition (rows_in cs)) committed;
  own = committed ∙ ap (λ (cs : List Slot). row_slots new.definition (rows_in cs)) (sym committed);
}

-- where nothing is shown but the rows that are there to stay
pub bare_holds : (old new : Page) → HoldsRows old → new ≡ record old { entries = [] } → HoldsRows new
bare_holds old new h is = shown_holds old new h (ap (λ (p : Page). p.definition) is) (ap (λ (p : Page). p.committed) is) (ap (λ (p : Page). rows_are_kept old.definition (rows_on p)) is ∙ h.committed)

-- where entries are shown that fit
pub over_holds : (old new : Page) (o : Overlay) → HoldsRows old → Fits o old → new ≡ record old { entries = entry_slots old.definition o } → HoldsRows new
over_holds old new o h fits is =
    let es : List Slot = entry_slots old.definition o in
    let kept : rows_are_kept old.definition (rows_in (over es old.committed)) ≡ true =
    (and_parts (keys_rise (keys_in (over es old.committed)) && list_all (has_own_key old.definition) (over es old.committed)) (rows_are_kept old.definition (rows_in (over es old.committed))) fits.holds.sound).1 in
    shown_holds old new h (ap (λ (p : Page). p.definition) is) (ap (λ (p : Page). p.committed) is) (ap (λ (p : Page). rows_are_kept old.definition (rows_on p)) is ∙ kept)

-- ---- one call after another

pub stays_on : (old mid new : Page) → Stays old mid → Stays mid new → Stays old new
stays_on old mid new p q =
    let first : old.room ≤ mid.room = p.room in
    let second : mid.room ≤ new.room = q.room in
    record {
      definition = q.definition ∙ p.definition;
      committed = q.committed ∙ p.committed;
      entries = λ key e. q.entries key (p.entries key e);
      room = omega arith;
    }
