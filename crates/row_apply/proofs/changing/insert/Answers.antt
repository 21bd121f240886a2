use Rattle.std.proofs.Common.{ℕ, List, ap, ◌∙◌}
use Rattle.val_types.specs.declared.value.Value.{Value}
use Rattle.val_types.specs.Keys.{primary_key}
use Rattle.table_rules.specs.Tables.{Table}
use Rattle.table_rules.specs.Stored.{table_named}
use Rattle.row_apply.proofs.changing.insert.Goals as goal

pub put_in-requires-clause-key : goal.put_in-requires-clause-key
put_in-requires-clause-key c = λ t is.
    c.in_ok-key.ensures t (ap (λ (name : List ℕ). table_named name c.tables.result.now.tables) c.get.ensures ∙ ap (λ (ts : List Table). table_named c.args.table ts) c.tables.ensures ∙ is)
    ∙ ap (λ (row : List Value). primary_key t.definition row) c.get-2.ensures
