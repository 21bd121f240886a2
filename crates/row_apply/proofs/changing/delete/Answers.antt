use Rattle.std.proofs.Common.{◌≡◌, ℕ, List, None, sym, ap, subst, ◌∙◌}
use Rattle.val_types.specs.declared.value.Value.{Value}
use Rattle.val_types.specs.declared.change.Change.TheVariants.{Delete}
use Rattle.val_types.specs.Keys.{primary_key}
use Rattle.table_rules.specs.Tables.{Table}
use Rattle.table_rules.specs.Stored.{table_named}
use Rattle.event_codec.specs.Event.{Map}
use Rattle.row_apply.specs.Changes.{change_carried, table_code}
use Rattle.row_apply.specs.Ends.{Ends, progress_in}
use Rattle.row_apply.proofs.changing.delete.Goals as goal

pub take_out-requires : goal.take_out-requires
take_out-requires c = λ t is.
    c.in_ok-key.ensures t (ap (λ (name : List ℕ). table_named name c.tables.result.now.tables) c.get.ensures ∙ ap (λ (ts : List Table). table_named c.args.table ts) c.tables.ensures ∙ is)
    ∙ ap (λ (row : List Value). primary_key t.definition row) (c.get-2.ensures ∙ sym c.get-3.ensures)

-- the row behind its holder is that row
pub returns-clause-ends : goal.returns-clause-ends
returns-clause-ends c =
    subst (λ (row : List Value). (m : Map) → table_code m c.args.work.now.tables (Delete c.args.table row) ≡ None
    → Ends c.take_out.result (progress_in c.take_out.new.work) (change_carried c.args.pos m (Delete c.args.table row) (progress_in c.args.work.now)))
    c.get-3.ensures c.take_out.ensures.ends
