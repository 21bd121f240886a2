use Rattle.std.proofs.Common.{sym, ap, ◌∙◌}
use Rattle.val_types.specs.declared.definitions.TableDef.{TableDef}
use Rattle.val_types.specs.Keys.{primary_key}
use Rattle.table_sheet.specs.Pages.{rows_on}
use Rattle.row_store.proofs.Keeping.{replaced_same_kept, shown_holds}
use Rattle.row_store.proofs.Telling.{replaced, told_well, told_absent}
use Rattle.row_store.proofs.shelf.Shelf.replace.Goals as goal

pub invariant_of-self : goal.invariant_of-self
invariant_of-self c = record {
  named = c.args.self.now.named ∙ ap (λ (d : TableDef). d.name) (sym c.replace_same.ensures.stays.definition);
  rows =
      shown_holds c.args.self.now.sheet c.replace_same.new.self c.args.self.now.rows c.replace_same.ensures.stays.definition c.replace_same.ensures.stays.committed
      (replaced_same_kept c.replace_same.result c.args.self.now.sheet.definition c.args.old.now c.args.new (rows_on c.args.self.now.sheet) (rows_on c.replace_same.new.self) c.args.self.now.rows.shown c.requires c.replace_same.ensures.there c.replace_same.ensures.absent);
}

pub returns-clause-there : goal.returns-clause-there
returns-clause-there c = λ stands. replaced c.replace_same.result c.told.result c.args.self.now.sheet.definition (primary_key c.args.self.now.sheet.definition c.args.old.now) c.args.new (rows_on c.args.self.now.sheet) (rows_on c.replace_same.new.self) c.told.ensures (c.replace_same.ensures.there stands)

pub returns-clause-absent : goal.returns-clause-absent
returns-clause-absent c = λ other. (told_absent c.replace_same.result c.told.result c.told.ensures (c.replace_same.ensures.absent other).0, (c.replace_same.ensures.absent other).1)

pub returns-clause-before : goal.returns-clause-before
returns-clause-before c = told_well c.replace_same.result c.told.result _ c.told.ensures c.replace_same.ensures.before

pub returns-clause-entry : goal.returns-clause-entry
returns-clause-entry c = told_well c.replace_same.result c.told.result _ c.told.ensures c.replace_same.ensures.entry
