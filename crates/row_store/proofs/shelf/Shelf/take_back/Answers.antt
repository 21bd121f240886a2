use Rattle.std.proofs.Common.{sym, ap, ◌∙◌}
use Rattle.val_types.specs.declared.definitions.TableDef.{TableDef}
use Rattle.val_types.specs.Changes.{inverse}
use Rattle.table_sheet.specs.Pages.{rows_on}
use Rattle.row_store.proofs.Keeping.{changed_kept, shown_holds}
use Rattle.row_store.proofs.shelf.Shelf.take_back.Goals as goal

pub invariant_of-self : goal.invariant_of-self
invariant_of-self c = record {
  named = c.args.self.now.named ∙ ap (λ (d : TableDef). d.name) (sym c.take_back_on.ensures.stays.definition);
  rows =
      shown_holds c.args.self.now.sheet c.take_back_on.new.sheet c.args.self.now.rows c.take_back_on.ensures.stays.definition c.take_back_on.ensures.stays.committed
      (changed_kept c.args.self.now.sheet.definition (inverse c.args.change) (rows_on c.args.self.now.sheet) (rows_on c.take_back_on.new.sheet) c.args.self.now.rows.shown c.take_back_on.ensures.rows);
}
