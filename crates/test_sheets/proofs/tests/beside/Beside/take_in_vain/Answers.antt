use Rattle.std.proofs.Common.{ℕ, List, Option, sym, ap, ◌∙◌}
use Rattle.std.specs.Prelude.{is_some}
use Rattle.val_types.specs.declared.value.Value.{Value}
use Rattle.table_rules.specs.Stored.{key_in_way}
use Rattle.table_rules.proofs.Storing.{keys_in_way}
use Rattle.table_sheet.specs.Pages.{rows_on}
use Rattle.test_sheets.proofs.tests.beside.Beside.take_in_vain.Goals as goal

pub put_back_row-requires-clause-free : goal.put_back_row-requires-clause-free
put_back_row-requires-clause-free c =
    sym (keys_in_way c.remove_same.new.self.definition c.in_ok-row.row (rows_on c.remove_same.new.self))
    ∙ ap (λ (o : Option ℕ). is_some o)
    (sym (c.key_in_way.ensures ∙ ap (λ (r : List Value). key_in_way c.remove_same.new.self.definition r (rows_on c.remove_same.new.self)) c.get-else-not-fits.ensures))
    ∙ sym c.if-is_some.ensures
