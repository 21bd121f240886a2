use Rattle.std.proofs.Common.{sym, ap, ◌∙◌}
use Rattle.val_types.specs.declared.definitions.TableDef.{TableDef}
use Rattle.table_sheet.specs.Pages.{rows_on}
use Rattle.row_store.proofs.Keeping.{deleted_kept, shown_holds}
use Rattle.row_store.proofs.Telling.{deleted, told_well}
use Rattle.row_store.proofs.shelf.Shelf.delete.Goals as goal

pub invariant_of-self : goal.invariant_of-self
invariant_of-self c = record {
  named = c.args.self.now.named ∙ ap (λ (d : TableDef). d.name) (sym c.delete.ensures.stays.definition);
  rows =
      shown_holds c.args.self.now.sheet c.delete.new.self c.args.self.now.rows c.delete.ensures.stays.definition c.delete.ensures.stays.committed
      (deleted_kept c.delete.result c.args.self.now.sheet.definition c.args.key.now (rows_on c.args.self.now.sheet) (rows_on c.delete.new.self) c.args.self.now.rows.shown c.delete.ensures.stored);
}

pub returns-clause-stored : goal.returns-clause-stored
returns-clause-stored c = deleted c.delete.result c.told.result c.args.self.now.sheet.definition c.args.key.now (rows_on c.args.self.now.sheet) (rows_on c.delete.new.self) c.told.ensures c.delete.ensures.stored

pub returns-clause-before : goal.returns-clause-before
returns-clause-before c = told_well c.delete.result c.told.result _ c.told.ensures c.delete.ensures.entry
