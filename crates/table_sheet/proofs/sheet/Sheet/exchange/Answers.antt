use Rattle.std.proofs.Common.{◌≡◌, List, Bool, true, false, cond, sym, ap, ◌∙◌}
use Rattle.std.specs.Prelude.{is_some}
use Rattle.val_types.specs.declared.value.Value.{Value}
use Rattle.val_types.specs.Keys.{primary_key}
use Rattle.table_rules.specs.Changes.{with_row}
use Rattle.table_rules.specs.Stored.{rows_beside}
use Rattle.row_index.specs.row_sheets.Over.{over}
use Rattle.table_sheet.specs.Pages.{has_entry, rows_on}
use Rattle.table_sheet.proofs.Shown.{sound}
use Rattle.table_sheet.proofs.Exchanged.{row_standing, same_primary, none_in_way}
use Rattle.table_sheet.proofs.sheet.Sheet.exchange.Goals as goal

pub returns-in_err-set_just-clause-absent : goal.returns-in_err-set_just-clause-absent
returns-in_err-set_just-clause-absent c = λ absent. let never : true ≡ false = sym c.in_err-set_just.ensures.failed ∙ absent in cc

pub returns-then-branch-clause-there : goal.returns-then-branch-clause-there
returns-then-branch-clause-there c = λ stands. (
  ap is_some (row_standing c.args.self.now.definition c.args.old.now (rows_on c.args.self.now) stands),
  none_in_way c.args.self.now.definition c.args.old.now c.args.new (over c.args.self.now.entries c.args.self.now.committed)
      (sound c.args.self.now.definition (over c.args.self.now.entries c.args.self.now.committed) c.definition.ensures.page.sound) stands c.requires.fits c.requires.keys,
  c.in_ok-set_just.ensures.rows
      ∙ ap (λ (stood : Bool). cond stood (with_row c.args.self.now.definition c.args.new (rows_beside c.args.self.now.definition (primary_key c.args.self.now.definition c.args.old.now) (rows_on c.args.self.now))) (rows_on c.args.self.now)) c.if-branch.true,
)

pub returns-then-branch-clause-entry : goal.returns-then-branch-clause-entry
returns-then-branch-clause-entry c =
    ap (λ (k : List Value). has_entry k c.set_just.new.self) (sym (same_primary c.args.self.now.definition c.args.old.now c.args.new c.requires.keys))
    ∙ c.in_ok-set_just.ensures.entry c.if-branch.true
