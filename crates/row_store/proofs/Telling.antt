-- What a sheet's answer, told on, says of the rows.
use Rattle.std.proofs.Common.{◌≡◌, ℕ, List, Some, Result, Ok, Err, OnOk, sym, ap, subst, ◌∙◌}
use Rattle.val_types.specs.declared.value.Value.{Value}
use Rattle.val_types.specs.declared.definitions.TableDef.{TableDef}
use Rattle.table_sheet.specs.declared.refusal.SheetRefusal.{SheetRefusal}
use Rattle.table_sheet.specs.declared.refusal.SheetRefusal.TheVariants.{Taken as SheetTaken, Absent as SheetAbsent, NoMemory as SheetNoMemory}
use Rattle.table_sheet.specs.Refusals.{Inserted as SheetInserted, Replaced as SheetReplaced, Deleted as SheetDeleted}
use Rattle.row_store.specs.declared.refusal.RowRefusal.{RowRefusal}
use Rattle.row_store.specs.declared.refusal.RowRefusal.TheVariants.{Taken, Absent, NoMemory}
use Rattle.row_store.specs.Refusals.{Tells, Answers}
use Rattle.row_store.specs.Shelves.{Inserted, Replaced, Deleted}

-- a refusal that is told as another one
told_as : (P : RowRefusal → Type 0) (told cause : RowRefusal) → told ≡ cause → P cause → P told
told_as P told cause e p = subst P (sym e) p

insert_refused : (refusal : SheetRefusal) (told : RowRefusal) (d : TableDef) (row : List Value) (old new : List (List Value)) → Tells refusal told
    → SheetInserted (Err refusal) d row old new → Inserted (Err told) d row old new
insert_refused (SheetTaken which) (Taken key) d row old new tells p = (p.0 ∙ ap (λ (k : ℕ). Some k) (sym tells), p.1)
insert_refused (SheetTaken which) Absent d row old new tells p = absurd tells
insert_refused (SheetTaken which) NoMemory d row old new tells p = p.1
insert_refused SheetAbsent told d row old new tells p = absurd p
insert_refused SheetNoMemory told d row old new tells p = told_as (λ (r : RowRefusal). Inserted (Err r) d row old new) told NoMemory tells p

replace_refused : (refusal : SheetRefusal) (told : RowRefusal) (d : TableDef) (key row : List Value) (old new : List (List Value)) → Tells refusal told
    → SheetReplaced (Err refusal) d key row old new → Replaced (Err told) d key row old new
replace_refused (SheetTaken which) (Taken number) d key row old new tells p = (p.0, p.1 ∙ ap (λ (k : ℕ). Some k) (sym tells), p.2)
replace_refused (SheetTaken which) Absent d key row old new tells p = absurd tells
replace_refused (SheetTaken which) NoMemory d key row old new tells p = p.2
replace_refused SheetAbsent told d key row old new tells p = told_as (λ (r : RowRefusal). Replaced (Err r) d key row old new) told Absent tells p
replace_refused SheetNoMemory told d key row old new tells p = told_as (λ (r : RowRefusal). Replaced (Err r) d key row old new) told NoMemory tells p

delete_refused : (refusal : SheetRefusal) (told : RowRefusal) (d : TableDef) (key : List Value) (old new : List (List Value)) → Tells refusal told
    → SheetDeleted (Err refusal) d key old new → Deleted (Err told) d key old new
delete_refused (SheetTaken which) told d key old new tells p = absurd p
delete_refused SheetAbsent told d key old new tells p = told_as (λ (r : RowRefusal). Deleted (Err r) d key old new) told Absent tells p
delete_refused SheetNoMemory told d key old new tells p = told_as (λ (r : RowRefusal). Deleted (Err r) d key old new) told NoMemory tells p

-- ---- answers

pub inserted : (answer : Result (Unit {0}) SheetRefusal) (told : Result (Unit {0}) RowRefusal) (d : TableDef) (row : List Value) (old new : List (List Value)) → Answers answer told
    → SheetInserted answer d row old new → Inserted told d row old new
inserted (Ok done) (Ok too) d row old new answers p = p
inserted (Ok done) (Err told) d row old new answers p = absurd answers
inserted (Err refusal) (Ok done) d row old new answers p = absurd answers
inserted (Err refusal) (Err told) d row old new answers p = insert_refused refusal told d row old new answers p

pub replaced : (answer : Result (Unit {0}) SheetRefusal) (told : Result (Unit {0}) RowRefusal) (d : TableDef) (key row : List Value) (old new : List (List Value)) → Answers answer told
    → SheetReplaced answer d key row old new → Replaced told d key row old new
replaced (Ok done) (Ok too) d key row old new answers p = p
replaced (Ok done) (Err told) d key row old new answers p = absurd answers
replaced (Err refusal) (Ok done) d key row old new answers p = absurd answers
replaced (Err refusal) (Err told) d key row old new answers p = replace_refused refusal told d key row old new answers p

pub deleted : (answer : Result (Unit {0}) SheetRefusal) (told : Result (Unit {0}) RowRefusal) (d : TableDef) (key : List Value) (old new : List (List Value)) → Answers answer told
    → SheetDeleted answer d key old new → Deleted told d key old new
deleted (Ok done) (Ok too) d key old new answers p = p
deleted (Ok done) (Err told) d key old new answers p = absurd answers
deleted (Err refusal) (Ok done) d key old new answers p = absurd answers
deleted (Err refusal) (Err told) d key old new answers p = delete_refused refusal told d key old new answers p

-- what holds where a sheet answers well holds where that is told
pub told_well : (answer : Result (Unit {0}) SheetRefusal) (told : Result (Unit {0}) RowRefusal) (P : Type 0) → Answers answer told → OnOk answer P → OnOk told P
told_well (Ok done) (Ok too) P answers p = p
told_well (Ok done) (Err told) P answers p = absurd answers
told_well (Err refusal) (Ok done) P answers p = absurd answers
told_well (Err refusal) (Err told) P answers p = tt

-- where there is no such row, none is told
pub told_absent : (answer : Result (Unit {0}) SheetRefusal) (told : Result (Unit {0}) RowRefusal) → Answers answer told → answer ≡ Err SheetAbsent → told ≡ Err Absent
told_absent answer told answers is = absent_told told (subst (λ (a : Result (Unit {0}) SheetRefusal). Answers a told) is answers)
  where
    absent_told : (told : Result (Unit {0}) RowRefusal) → Answers (Err SheetAbsent) told → told ≡ Err Absent
    absent_told (Ok done) a = absurd a
    absent_told (Err refusal) a = ap (λ (r : RowRefusal). Err r) a
