use Rattle.std.proofs.Common.{sym, ap, ◌∙◌}
use Rattle.val_types.specs.declared.definitions.TableDef.{TableDef}
use Rattle.val_types.specs.Keys.{primary_key}
use Rattle.table_sheet.specs.Pages.{rows_on}
use Rattle.row_store.proofs.Keeping.{removed_same_kept, shown_holds}
use Rattle.row_store.proofs.Telling.{deleted, told_well, told_absent}
use Rattle.row_store.proofs.shelf.Shelf.remove.Goals as goal

pub invariant_of-self : goal.invariant_of-self
invariant_of-self c = record {
  named = c.args.self.now.named ∙ ap (λ (d : TableDef). d.name) (sym c.remove_same.ensures.stays.definition);
  rows =
      shown_holds c.args.self.now.sheet c.remove_same.new.self c.args.self.now.rows c.remove_same.ensures.stays.definition c.remove_same.ensures.stays.committed
      (removed_same_kept c.remove_same.result c.args.self.now.sheet.definition c.args.row.now (rows_on c.args.self.now.sheet) (rows_on c.remove_same.new.self) c.args.self.now.rows.shown c.remove_same.ensures.there c.remove_same.ensures.absent);
}

pub returns-clause-there : goal.returns-clause-there
returns-clause-there c = λ stands. deleted c.remove_same.result c.told.result c.args.self.now.sheet.definition (primary_key c.args.self.now.sheet.definition c.args.row.now) (rows_on c.args.self.now.sheet) (rows_on c.remove_same.new.self) c.told.ensures (c.remove_same.ensures.there stands)

pub returns-clause-absent : goal.returns-clause-absent
returns-clause-absent c = λ other. (told_absent c.remove_same.result c.told.result c.told.ensures (c.remove_same.ensures.absent other).0, (c.remove_same.ensures.absent other).1)

pub returns-clause-before : goal.returns-clause-before
returns-clause-before c = told_well c.remove_same.result c.told.result _ c.told.ensures c.remove_same.ensures.before
