use Rattle.std.proofs.Common.{List}
use Rattle.val_types.specs.declared.definitions.TableDef.{TableDef}
use Rattle.table_rules.specs.Tables.{Table}
use Rattle.store_load.specs.Loading.{ChangesTables}
use Rattle.store_open.specs.Filling.{Filling, IsEmpty}
use Rattle.store_open.proofs.filling.insert_all.Given as goal

abbrev pub invariant-loop-row : goal.invariant-loop-row
invariant-loop-row l = record {
  fills : (before : List Table) (d : TableDef) → IsEmpty before d l.name l.fn.work.tables → Filling before d l.rows l.row-index l.work.tables;
  rest : ChangesTables l.fn.work l.work;
}
