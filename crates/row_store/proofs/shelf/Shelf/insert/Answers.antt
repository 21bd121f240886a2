use Rattle.std.proofs.Common.{sym, ap, ◌∙◌}
use Rattle.val_types.specs.declared.definitions.TableDef.{TableDef}
use Rattle.table_sheet.specs.Pages.{rows_on}
use Rattle.row_store.proofs.Keeping.{inserted_kept, shown_holds}
use Rattle.row_store.proofs.Telling.{inserted, told_well}
use Rattle.row_store.proofs.shelf.Shelf.insert.Goals as goal

pub invariant_of-self : goal.invariant_of-self
invariant_of-self c = record {
  named = c.args.self.now.named ∙ ap (λ (d : TableDef). d.name) (sym c.insert.ensures.stays.definition);
  rows =
      shown_holds c.args.self.now.sheet c.insert.new.self c.args.self.now.rows c.insert.ensures.stays.definition c.insert.ensures.stays.committed
      (inserted_kept c.insert.result c.args.self.now.sheet.definition c.args.row (rows_on c.args.self.now.sheet) (rows_on c.insert.new.self) c.args.self.now.rows.shown c.requires c.insert.ensures.stored);
}

pub returns-clause-stored : goal.returns-clause-stored
returns-clause-stored c = inserted c.insert.result c.told.result c.args.self.now.sheet.definition c.args.row (rows_on c.args.self.now.sheet) (rows_on c.insert.new.self) c.told.ensures c.insert.ensures.stored

pub returns-clause-entry : goal.returns-clause-entry
returns-clause-entry c = told_well c.insert.result c.told.result _ c.told.ensures c.insert.ensures.entry
