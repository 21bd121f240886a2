use Rattle.std.proofs.Common.{sym, ap, ◌∙◌}
use Rattle.val_types.specs.declared.definitions.TableDef.{TableDef}
use Rattle.table_sheet.specs.Pages.{rows_on}
use Rattle.row_store.proofs.Keeping.{replaced_kept, shown_holds}
use Rattle.row_store.proofs.Telling.{replaced, told_well}
use Rattle.row_store.proofs.shelf.Shelf.update.Goals as goal

pub invariant_of-self : goal.invariant_of-self
invariant_of-self c = record {
  named = c.args.self.now.named ∙ ap (λ (d : TableDef). d.name) (sym c.replace.ensures.stays.definition);
  rows =
      shown_holds c.args.self.now.sheet c.replace.new.self c.args.self.now.rows c.replace.ensures.stays.definition c.replace.ensures.stays.committed
      (replaced_kept c.replace.result c.args.self.now.sheet.definition c.args.key.now c.args.row (rows_on c.args.self.now.sheet) (rows_on c.replace.new.self) c.args.self.now.rows.shown c.requires c.replace.ensures.stored);
}

pub returns-clause-stored : goal.returns-clause-stored
returns-clause-stored c = replaced c.replace.result c.told.result c.args.self.now.sheet.definition c.args.key.now c.args.row (rows_on c.args.self.now.sheet) (rows_on c.replace.new.self) c.told.ensures c.replace.ensures.stored

pub returns-clause-before : goal.returns-clause-before
returns-clause-before c = told_well c.replace.result c.told.result _ c.told.ensures c.replace.ensures.before

pub returns-clause-entry : goal.returns-clause-entry
returns-clause-entry c = told_well c.replace.result c.told.result _ c.told.ensures c.replace.ensures.entry
