use Rattle.std.proofs.Common.{◌≡◌, ap, ◌∙◌}
use Rattle.sql_tree.specs.Tree.{aggregates}
use Rattle.sql_tree.specs.View.{view_aggregates, view_selected}
use Rattle.key_order.proofs.Whole.{answer_as, selected_is}
use Rattle.key_order.proofs.ends.row_of_ends.Goals as goal

pub returns-then-is_whole : goal.returns-then-is_whole
returns-then-is_whole c =
    let same : view_selected c.args.what.now ≡ aggregates (view_aggregates c.in-Aggregates.aggregates) =
    ap view_selected c.in-Aggregates.is ∙ selected_is c.in-Aggregates.aggregates in
    answer_as c.args.outside.now c.args.what.now c.in-Aggregates.aggregates _ _ c.args.tables.now.tables c.ends_of_table.result same (c.is_whole.ensures c.if-is_whole.true) c.ends_of_table.ensures
