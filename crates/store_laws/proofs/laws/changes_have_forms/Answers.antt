use Rattle.std.proofs.Common.{◌≡◌, List, Option, Some, None, refl, sym, subst}
use Rattle.std.specs.List.{AllByRecursion}
use Rattle.std.specs.Option.{option_map}
use Rattle.table_rules.specs.Tables.{Table}
use Rattle.table_rules.specs.Stored.{all_applied}
use Rattle.store_model.specs.log_entries.Entries.{with_tables}
use Rattle.store_model.specs.Bodies.{IsChange}
use Rattle.store_laws.proofs.Forms.{IsSmall, small_tables, changes_have}
use Rattle.store_laws.proofs.laws.changes_have_forms.Goals as goal

pub returns : goal.returns
returns c cs base next theirs kept are e =
    let names = c.tables_have_names.ensures base.catalog are in
    let small = small_tables c.statement_is_that_of_making.ensures base.catalog are.each names in
    by (all_applied cs base.tables) e (λ after e'. changes_have c.changes_turn_back.ensures c.definitions_stay.ensures cs base.tables after
    (subst (AllByRecursion IsSmall) (sym theirs) small) kept e') refl
  where
    by : (x : Option (List Table)) → option_map (with_tables base) x ≡ Some next → ((after : List Table) → all_applied cs base.tables ≡ Some after → AllByRecursion IsChange cs)
        → all_applied cs base.tables ≡ x → AllByRecursion IsChange cs
    by None e behind is = cc
    by (Some after) e behind is = behind after is
