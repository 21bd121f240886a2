use Rattle.std.proofs.Common.{◌≡◌, ℕ, List, None, sym, ap, subst, ◌∙◌}
use Rattle.val_types.specs.declared.value.Value.{Value}
use Rattle.val_types.specs.declared.change.Change.TheVariants.{Update}
use Rattle.val_types.specs.Keys.{primary_key}
use Rattle.table_rules.specs.Tables.{Table}
use Rattle.table_rules.specs.Stored.{table_named}
use Rattle.event_codec.specs.Event.{Map}
use Rattle.row_apply.specs.Changes.{change_carried, table_code}
use Rattle.row_apply.specs.Ends.{Ends, progress_in}
use Rattle.row_apply.proofs.changing.update.Goals as goal

pub replace_there-requires : goal.replace_there-requires
replace_there-requires c = λ t is.
    c.in_ok-key.ensures t (ap (λ (name : List ℕ). table_named name c.tables.result.now.tables) c.get.ensures ∙ ap (λ (ts : List Table). table_named c.args.table ts) c.tables.ensures ∙ is)
    ∙ ap (λ (row : List Value). primary_key t.definition row) (c.get-2.ensures ∙ sym c.get-3.ensures)

-- the row behind its holder is that row
pub returns-clause-ends : goal.returns-clause-ends
returns-clause-ends c =
    subst (λ (row : List Value). (m : Map) → table_code m c.args.work.now.tables (Update c.args.table row c.args.after) ≡ None
    → Ends c.replace_there.result (progress_in c.replace_there.new.work) (change_carried c.args.pos m (Update c.args.table row c.args.after) (progress_in c.args.work.now)))
    c.get-3.ensures c.replace_there.ensures.ends
