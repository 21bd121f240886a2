use Rattle.sql_tree.specs.StatementView.{view_sets, view_supply}
use Rattle.sql_print.specs.Names.{quoted_name}
use Rattle.sql_print.specs.StatementSpelling.{columns_text, ignore_text, supply_text, update_text}
use Rattle.sql_reach.specs.Closing.{closed}
use Rattle.name_const_length.specs.Closed.{closed_sets, closed_supply}
use Rattle.name_const_length.proofs.Growing.{start, step}
use Rattle.name_const_length.proofs.statements.add_insert.Goals as goal

pub returns : goal.returns
unfolding closed
returns c =
    let locals = c.args.locals.now in
    let i = c.args.insert.now in
    let begun = start c.args.total.now c.add_insert_into.new.total (ignore_text i.ignore) c.add_insert_into.ensures in
    let table = step c.add_name.new.total (quoted_name i.table) begun c.add_name.ensures in
    let columns = step c.add_columns.new.total (columns_text i.columns) table c.add_columns.ensures in
    let from = step c.add_source.new.total (supply_text (closed_supply locals (view_supply i.source))) columns c.add_source.ensures in
    (step c.add_update.new.total (update_text (closed_sets locals (view_sets i.update))) from c.add_update.ensures).is
