use Rattle.std.proofs.Common.{◌≡◌, drop, find}
use Rattle.catalog_objects.specs.catalog_rules.Names.{same_name}
use Rattle.key_order.specs.where_candidates.session_ctx.sql_meaning.Frames.{View}
use Rattle.sql_evaluation.specs.Seen.{views_of}
use Rattle.sql_evaluation.proofs.lookup.row_of_table.Given as goal

abbrev pub invariant-loop-view : goal.invariant-loop-view
invariant-loop-view l =
    find (λ (view : View). same_name l.table view.definition.name) (views_of (drop l.view-index l.views)) ≡ find (λ (view : View). same_name l.table view.definition.name) (views_of l.views)
