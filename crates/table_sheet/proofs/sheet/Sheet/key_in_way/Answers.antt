use Rattle.std.proofs.Common.{List, Option, sym, ap, ◌∙◌}
use Rattle.std.specs.Prelude.{is_some}
use Rattle.val_types.specs.declared.value.Value.{Value}
use Rattle.table_sheet.specs.Pages.{rows_on}
use Rattle.table_sheet.proofs.Shown.{primary_in_way, unique_in_way}
use Rattle.table_sheet.proofs.sheet.Sheet.key_in_way.Goals as goal

pub returns-in-Some : goal.returns-in-Some
returns-in-Some c = primary_in_way c.args.self.now.definition c.args.row.now (rows_on c.args.self.now) (ap (λ (p : Option (List Value)). is_some p) (sym c.in-Some.ensures))

pub returns : goal.returns
returns c = c.first_agreed.ensures ∙ unique_in_way c.args.self.now.definition c.args.row.now (rows_on c.args.self.now) (ap (λ (p : Option (List Value)). is_some p) (sym c.in_default.ensures))
