use Rattle.std.proofs.Common.{◌++◌, codes}
use Rattle.sql_tree.specs.View.{view_part, view_orders}
use Rattle.sql_print.specs.Names.{quoted_name, count_if}
use Rattle.sql_print.specs.Spelling.{where_text, orders_text}
use Rattle.sql_print.proofs.Steps.{start, step, last}
use Rattle.sql_print.proofs.statements.write_delete.Goals as goal

pub returns : goal.returns
returns c =
    let d = c.args.delete.now in
    let named = start c.args.out.now (codes "DELETE FROM " ++ quoted_name d.table) c.in_ok-write_prefixed.ensures in
    let filtered = step (where_text (view_part d.filter)) named c.in_ok-write_filter.ensures in
    let ordered = step (orders_text (view_orders d.order)) filtered c.in_ok-write_order.ensures in
    last _ (count_if d.limit) _ ordered c.write_count_if.ensures
