use Rattle.std.proofs.Common.{◌≡◌, List, sym, ap, ◌∙◌}
use Rattle.val_types.specs.declared.value.Value.{Value}
use Rattle.table_rules.specs.Stored.{key_in_way}
use Rattle.table_sheet.specs.Pages.{rows_on}
use Rattle.table_sheet.proofs.Shown.{free_rows}
use Rattle.table_sheet.proofs.sheet.Sheet.insert.Goals as goal

pub put-requires-clause-free : goal.put-requires-clause-free
put-requires-clause-free c =
    let way : c.key_in_way.result ≡ key_in_way c.args.self.now.definition c.args.row (rows_on c.args.self.now) =
    c.key_in_way.ensures ∙ ap (λ (row : List Value). key_in_way c.args.self.now.definition row (rows_on c.args.self.now)) c.get.ensures in
    free_rows c.args.self.now.definition c.args.row (rows_on c.args.self.now) (sym way ∙ c.in_default.is)
