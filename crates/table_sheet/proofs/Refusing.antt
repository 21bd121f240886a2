-- What a refused change leaves.
use Rattle.std.proofs.Common.{◌≡◌, List, Some, Err, ap}
use Rattle.std.specs.Prelude.{is_some}
use Rattle.val_types.specs.declared.value.Value.{Value}
use Rattle.val_types.specs.declared.definitions.TableDef.{TableDef}
use Rattle.table_rules.specs.Stored.{row_of_key, rows_beside}
use Rattle.table_sheet.specs.declared.refusal.SheetRefusal.{SheetRefusal}
use Rattle.table_sheet.specs.declared.refusal.SheetRefusal.TheVariants.{Taken, Absent, NoMemory}
use Rattle.table_sheet.specs.Refusals.{Inserted, Replaced}

pub refused_same : (refusal : SheetRefusal) (d : TableDef) (row : List Value) (old new : List (List Value)) → Inserted (Err refusal) d row old new → new ≡ old
refused_same (Taken which) d row old new p = p.1
refused_same Absent d row old new p = absurd p
refused_same NoMemory d row old new p = p

pub replaced_err : (refusal : SheetRefusal) (d : TableDef) (key row before : List Value) (old mid new : List (List Value)) → row_of_key d key old ≡ Some before
    → Inserted (Err refusal) d row (rows_beside d key old) mid → new ≡ old → Replaced (Err refusal) d key row old new
replaced_err (Taken which) d key row before old mid new found p same = (ap is_some found, p.0, same)
replaced_err Absent d key row before old mid new found p same = absurd p
replaced_err NoMemory d key row before old mid new found p same = same
