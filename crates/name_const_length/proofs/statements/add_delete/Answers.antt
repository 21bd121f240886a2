use Rattle.std.proofs.Common.{◌++◌, codes}
use Rattle.sql_tree.specs.View.{view_orders, view_part}
use Rattle.sql_print.specs.Names.{count_if, quoted_name}
use Rattle.sql_print.specs.Spelling.{orders_text, where_text}
use Rattle.sql_reach.specs.Closing.{closed}
use Rattle.name_const_length.specs.Closed.{closed_count_if, closed_orders, closed_part}
use Rattle.name_const_length.proofs.Growing.{start, step}
use Rattle.name_const_length.proofs.statements.add_delete.Goals as goal

pub returns : goal.returns
unfolding closed
returns c =
    let locals = c.args.locals.now in
    let d = c.args.delete.now in
    let table = start c.args.total.now c.add_prefixed.new.total (codes "DELETE FROM " ++ quoted_name d.table) c.add_prefixed.ensures in
    let filter = step c.add_filter.new.total (where_text (closed_part locals (view_part d.filter))) table c.add_filter.ensures in
    let order = step c.add_order.new.total (orders_text (closed_orders locals (view_orders d.order))) filter c.add_order.ensures in
    (step c.add_count_if.new.total (count_if (closed_count_if locals d.limit)) order c.add_count_if.ensures).is
