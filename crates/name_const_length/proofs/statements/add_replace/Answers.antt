use Rattle.std.proofs.Common.{◌++◌, codes}
use Rattle.sql_tree.specs.StatementView.{view_supply}
use Rattle.sql_print.specs.Names.{quoted_name}
use Rattle.sql_print.specs.StatementSpelling.{columns_text, supply_text}
use Rattle.sql_reach.specs.Closing.{closed}
use Rattle.name_const_length.specs.Closed.{closed_supply}
use Rattle.name_const_length.proofs.Growing.{start, step}
use Rattle.name_const_length.proofs.statements.add_replace.Goals as goal

pub returns : goal.returns
unfolding closed
returns c =
    let locals = c.args.locals.now in
    let r = c.args.replace.now in
    let table = start c.args.total.now c.add_prefixed.new.total (codes "REPLACE INTO " ++ quoted_name r.table) c.add_prefixed.ensures in
    let columns = step c.add_columns.new.total (columns_text r.columns) table c.add_columns.ensures in
    (step c.add_source.new.total (supply_text (closed_supply locals (view_supply r.source))) columns c.add_source.ensures).is
